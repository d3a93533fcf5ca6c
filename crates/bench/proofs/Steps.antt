-- One call of a run: what held before it holds after it, and what it gives is true.
use Rattle.std.proofs.Common.{◌≡◌, ℕ, ◌*◌, ◌<◌, ◌≤◌, List, length, get_or, Some, None, IsSomeAnd, Ok, Err, Option, Result, sym, refl, ap, ◌∙◌, subst, arith}
use Rattle.sheet.specs.declared.refusal.Refusal.{Refusal}
use Rattle.sheet.specs.declared.size.Size.{Size}
use Rattle.sheet.specs.Pixels.{place_of}
use Rattle.sheet.specs.Keys.{reading_of}
use Rattle.sheet.specs.Images.{image_of}
use Rattle.sheet.specs.Refusals.{Answers}
use Rattle.metric.specs.Model.{Model}
use Rattle.metric.specs.Laws.{Lawful}
use Rattle.transform.specs.Settled.{settled}
use Rattle.erosion.specs.Memory.{Shows, Fits}
use Rattle.settling.specs.Orders.{Counts}
use Rattle.sheets.specs.Calls.{marked, reading_at, peak_of}
use Rattle.sheets.proofs.Checks.{memory_passed}
use Rattle.bench.specs.declared.held.Answer.{Answer}
use Rattle.bench.specs.declared.held.Bench.{Bench}
use Rattle.bench.specs.declared.held.State.{State}
use Rattle.bench.specs.declared.held.State.TheVariants.{Open, Settled}
use Rattle.bench.specs.Truth.{ReadingTrue}
use Rattle.bench.specs.Calls.{Request, strikes, restores, settles, reads, peaks, reopens, Scene, bench_of, with_picture, refusal_of, Answered}
use Rattle.bench.specs.Runs.{Keeps, finds_all, too_little, LawfulCall, accepted, edited, settled_with, state_with, GivenTrue}
use Rattle.bench.proofs.Nearest.{settled_reads_true}
use Rattle.bench.proofs.Deepest.{peak_given}
use Rattle.bench.proofs.Passed.{call_passed, pixel_passed, settle_passed}

-- a memory that the call left as it was is kept as it was
keeps_same : {n : ℕ} {kept handed left after : List ℕ} → Keeps n kept handed left after → left ≡ handed → after ≡ kept
keeps_same finds_all e = e
keeps_same (too_little lt) e = refl

-- a memory that was long enough was all that was kept
keeps_all : {n : ℕ} {kept handed left after : List ℕ} → Keeps n kept handed left after → n ≤ length handed → (handed ≡ kept) × (after ≡ left)
keeps_all finds_all e = (refl, refl)
keeps_all (too_little lt) e = absurd (omega arith)

pub not_both : (state : State) → state ≡ Open → state ≡ Settled → ⊥
not_both state p q = let z : ◌≡◌ {A = ℕ} 0 1 = cc in omega arith

-- what holds of a metric, by another fact
by_map : (o : Option Model) (P Q : Model → Type 0) → ((m : Model) → P m → Q m) → IsSomeAnd o P → IsSomeAnd o Q
by_map None P Q f x = x
by_map (Some m) P Q f x = f m x

-- the keys are settled for a picture by a lawful metric
abbrev pub SettledFor : Size → List ℕ → List ℕ → Model → Type 0
SettledFor size picture keys m = Lawful m × Shows size keys (settled m size.height size.width (image_of size.width picture))

-- what holds between calls: the bench has this state, the picture is the present one, and the keys of a settled bench are settled for it by
-- the latest metric
pub record Holds (size : Size) (state : State) (present : List ℕ) (metric : Option Model) (bench : Bench) (picture keys : List ℕ) : Type 0 where
  pub bench_is : bench ≡ bench_of size state
  pub picture_is : picture ≡ present
  pub settled_is : state ≡ Settled → IsSomeAnd metric (SettledFor size present keys)

module _ (size : Size) (state : State) (present : List ℕ) (metric : Option Model) (s t : Scene) (picture keys picture' keys' : List ℕ)
    (holds : Holds size state present metric s.bench picture keys)
    (pictures : Keeps (size.width * size.height) picture s.picture t.picture picture')
    (all-keys : Keeps (size.width * size.height) keys s.keys t.keys keys') where
  size_is : s.bench.size ≡ size
  size_is = ap (λ (b : Bench). b.size) holds.bench_is

  state_is : s.bench.state ≡ state
  state_is = ap (λ (b : Bench). b.state) holds.bench_is

  -- a picture, or keys, that passed are those that were kept
  picture_found : Fits s.bench.size s.picture → (s.picture ≡ picture) × (picture' ≡ t.picture)
  picture_found fits = keeps_all pictures (subst (λ (x : Size). Fits x s.picture) size_is fits)

  keys_found : Fits s.bench.size s.keys → (s.keys ≡ keys) × (keys' ≡ t.keys)
  keys_found fits = keeps_all all-keys (subst (λ (x : Size). Fits x s.keys) size_is fits)

  unchanged : t ≡ s → Holds size state present metric t.bench picture' keys'
  unchanged same = record {
    bench_is = ap (λ (x : Scene). x.bench) same ∙ holds.bench_is;
    picture_is = keeps_same pictures (ap (λ (x : Scene). x.picture) same) ∙ holds.picture_is;
    settled_is = λ is. let kept : keys ≡ keys' = sym (keeps_same all-keys (ap (λ (x : Scene). x.keys) same)) in subst (λ (k : List ℕ). IsSomeAnd metric (SettledFor size present k)) kept (holds.settled_is is);
  }

  edits : (row column byte : ℕ) → s.bench.state ≡ Open → Fits s.bench.size s.picture → t ≡ with_picture s (marked s.bench.size s.picture row column byte) → Holds size state (marked size present row column byte) metric t.bench picture' keys'
  edits row column byte is_open fits e =
      let found = picture_found fits in
      record {
        bench_is = ap (λ (x : Scene). x.bench) e ∙ holds.bench_is;
        picture_is = found.1 ∙ ap (λ (x : Scene). x.picture) e ∙ (λ i. marked (size_is i) ((found.0 ∙ holds.picture_is) i) row column byte);
        settled_is = λ is. absurd (not_both s.bench.state is_open (state_is ∙ is));
      }

  pub step : (request : Request) (result : Result Answer Refusal) → LawfulCall request → Answered s request t result →
      Holds size (accepted result (state_with request) state) (accepted result (edited size request) present) (accepted result (settled_with request) metric) t.bench picture' keys'
  step request (Err refusal) law a = unchanged a.1
  step (strikes row column) (Ok answer) law a =
      let p = call_passed s (strikes row column) a.0 in edits row column 0 p.0 (pixel_passed s.bench.size s.picture row column p.1).0 a.1.1
  step (restores row column) (Ok answer) law a =
      let p = call_passed s (restores row column) a.0 in edits row column 1 p.0 (pixel_passed s.bench.size s.picture row column p.1).0 a.1.1
  step (settles m order) (Ok answer) law a =
      let p = call_passed s (settles m order) a.0 in
      let fits = settle_passed order m s.bench.size s.picture s.keys s.spare s.waits p.1 in
      let done = a.1.1.1 in
      let is-present : s.picture ≡ present = (picture_found fits.0).0 ∙ holds.picture_is in
      let is-left : t.keys ≡ keys' = sym (keys_found fits.1).1 in
      record {
        bench_is = done.bench ∙ (λ i. bench_of (size_is i) Settled);
        picture_is = keeps_same pictures done.picture ∙ holds.picture_is;
        settled_is = λ is. (law, coe 0 1 (i. Shows (size_is i) (is-left i) (settled m (size_is i).height (size_is i).width (image_of (size_is i).width (is-present i)))) done.memory.image);
      }
  step (reads row column) (Ok answer) law a = unchanged a.1.1
  step peaks (Ok answer) law a = unchanged a.1.1
  step reopens (Ok answer) law a = record {
    bench_is = ap (λ (x : Scene). x.bench) a.1.1 ∙ (λ i. bench_of (size_is i) Open);
    picture_is = keeps_same pictures (ap (λ (x : Scene). x.picture) a.1.1) ∙ holds.picture_is;
    settled_is = λ is. absurd (not_both Open refl is);
  }

  -- the keys that a settled bench finds are settled for the present picture
  settled_now : s.bench.state ≡ Settled → Fits s.bench.size s.keys → IsSomeAnd metric (SettledFor size present s.keys)
  settled_now is fits = subst (λ (k : List ℕ). IsSomeAnd metric (SettledFor size present k)) (sym (keys_found fits).0) (holds.settled_is (sym state_is ∙ is))

  pub true_now : (request : Request) (result : Result Answer Refusal) → Answered s request t result → Answers (refusal_of s request) (t ≡ s) (GivenTrue size present metric s request t) result
  true_now request (Err refusal) a = a
  true_now (strikes row column) (Ok answer) a = (a.0, a.1.0)
  true_now (restores row column) (Ok answer) a = (a.0, a.1.0)
  true_now (settles m order) (Ok answer) a =
      let p = call_passed s (settles m order) a.0 in
      let fits = settle_passed order m s.bench.size s.picture s.keys s.spare s.waits p.1 in
      let is-present : s.picture ≡ present = (picture_found fits.0).0 ∙ holds.picture_is in
      let done = a.1.1.1 in
      (a.0, (a.1.0, (a.1.1.0, (coe 0 1 (i. Counts order m (size_is i) (is-present i) a.1.0) done.counts, done.front))))
  true_now (reads row column) (Ok answer) a =
      let p = call_passed s (reads row column) a.0 in
      let q = pixel_passed s.bench.size s.keys row column p.1 in
      let row_on : row < size.height = subst (λ (x : Size). row < x.height) size_is q.1.0 in
      let column-on : column < size.width = subst (λ (x : Size). column < x.width) size_is q.1.1 in
      let reading : Option (ℕ × ℕ) = reading_at s.bench.size s.keys row column in (
        a.0,
        (
          reading,
          (
            a.1.0,
            by_map metric (SettledFor size present s.keys) _
                (λ m held.
                let says : reading ≡ reading_of (settled m size.height size.width (image_of size.width present) row column) =
                (λ i. reading_of (get_or s.keys (place_of (size_is i).width row column) 0)) ∙ ap reading_of (held.1 row column row_on column-on) in
                subst (ReadingTrue m size.height size.width (image_of size.width present) row column) (sym says)
                (settled_reads_true m held.0 size.height size.width size.tall size.wide (image_of size.width present) row column))
                (settled_now p.0 q.0),
          ),
        ),
      )
  true_now peaks (Ok answer) a =
      let p = call_passed s peaks a.0 in
      let fits = (memory_passed s.bench.size s.keys _ p.1).0 in (
        a.0,
        (
          peak_of (s.bench.size.width * s.bench.size.height) s.keys,
          (
            a.1.0,
            by_map metric (SettledFor size present s.keys) _
                (λ m held.
                peak_given m held.0 size.height size.width size.tall size.wide size.rows size.columns (image_of size.width present) s.keys held.1 _
                (λ i. peak_of ((size_is i).width * (size_is i).height) s.keys))
                (settled_now p.0 fits),
          ),
        ),
      )
  true_now reopens (Ok answer) a = (a.0, a.1.0)
