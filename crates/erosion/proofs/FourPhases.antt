-- Phases of the columns, made on the sheet with rows and columns exchanged, and then of the rows, settle a picture.
use Rattle.std.proofs.Common.{◌≡◌, ℕ, suc, ◌+◌, ◌*◌, ◌<◌, ◌≤◌, true, sym, refl, ◌∙◌, subst}
use Rattle.sheet.specs.declared.direction.Direction.TheVariants.{North, South, West, East}
use Rattle.sheet.specs.Keys.{blank}
use Rattle.sheet.specs.Images.{Image, Same}
use Rattle.metric.specs.Model.{Model}
use Rattle.metric.specs.Laws.{Lawful}
use Rattle.transform.specs.Settled.{settled}
use Rattle.transform.specs.Erosion.{starting, FirstIdle}
use Rattle.transform.specs.Directional.{sweeps, Keyed, Phases, after_two}
use Rattle.transform.proofs.Rounds.{starting_blank}
use Rattle.transform.proofs.Lines.{Side, low, high}
use Rattle.transform.proofs.Directional.{toward, rows, columns, sweeps_same, first_idle_same, flipped, sweeps_keyed, phases_settle}

-- the first idle round is the same with rows and columns exchanged
first_idle_across : (h w : ℕ) (series series' : ℕ → Image) (n : ℕ) → ((i r c : ℕ) → r < h → c < w → series i c r ≡ series' i r c) → FirstIdle w h series n → FirstIdle h w series' n
first_idle_across h w series series' n same first = record {
  before = first.before;
  next = first.next;
  idle = λ r c row column. sym (same (suc first.before) r c row column) ∙ first.idle c r column row ∙ same first.before r c row column;
  busy = λ i p idle. first.busy i p (λ c r column row. same (suc i) r c row column ∙ idle r c row column ∙ sym (same i r c row column));
}

-- a phase of the columns of f, made on the rows of g
record Across (m : Model) (s : Side) (h w : ℕ) (f g : Image) (n : ℕ) : Type 0 where
  first : FirstIdle h w (sweeps m (toward columns s) h w f) n
  image : (r c : ℕ) → r < h → c < w → g c r ≡ sweeps m (toward columns s) h w f n r c

phase_across : (m : Model) (s : Side) (h w : ℕ) (f g g' : Image) (n : ℕ) → ((r c : ℕ) → r < h → c < w → g c r ≡ f r c) → FirstIdle w h (sweeps m (toward rows s) w h g) n → Same w h g' (sweeps m (toward rows s) w h g n) → Across m s h w f g' n
phase_across m s h w f g g' n across first image =
    let same : (i r c : ℕ) → r < h → c < w → sweeps m (toward rows s) w h g i c r ≡ sweeps m (toward columns s) h w f i r c =
    λ i r c row column. sweeps_same m (toward rows s) w h g (λ a b. f b a) (λ a b p q. across b a q p) i c r column row ∙ flipped m s h w f i r c in
    record {
      first = first_idle_across h w _ _ n same first;
      image = λ r c row column. image c r column row ∙ same n r c row column;
    }

-- images that agree on the sheet hold keys alike
keyed_same : (h w : ℕ) (f g : Image) → Same h w f g → Keyed h w g → Keyed h w f
keyed_same h w f g same keyed r c row column = subst (λ (x : ℕ). x ≤ blank) (sym (same r c row column)) (keyed r c row column)

-- k₀ holds the starting image, s₀ the same with rows and columns exchanged; phases lead to s₁ and s₂; k₁ is that exchanged
-- back, and phases lead to k₂ and k₃
module _ (m : Model) (law : Lawful m) (splits : m.splits ≡ true) (h w : ℕ) (h₁ : 1 ≤ h) (h₂ : h ≤ 1024) (w₁ : 1 ≤ w) (w₂ : w ≤ 1024) (picture k₀ s₀ s₁ s₂ k₁ k₂ k₃ : Image) (north south west east : ℕ)
    (begun : Same h w k₀ (starting w picture))
    (over : (r c : ℕ) → r < h → c < w → s₀ c r ≡ k₀ r c)
    (first : Keyed w h s₀ → FirstIdle w h (sweeps m West w h s₀) north × Same w h s₁ (sweeps m West w h s₀ north))
    (second : Keyed w h s₁ → FirstIdle w h (sweeps m East w h s₁) south × Same w h s₂ (sweeps m East w h s₁ south))
    (back : (r c : ℕ) → r < w → c < h → k₁ c r ≡ s₂ r c)
    (third : Keyed h w k₁ → FirstIdle h w (sweeps m West h w k₁) west × Same h w k₂ (sweeps m West h w k₁ west))
    (fourth : Keyed h w k₂ → FirstIdle h w (sweeps m East h w k₂) east × Same h w k₃ (sweeps m East h w k₂ east)) where
  pub four_phases : Same h w k₃ (settled m h w picture) × Phases m h w picture (north + south + west + east) × (north + south + west + east ≤ 2 * (w + h))
  four_phases =
      let start : Image = starting w picture in
      let keyed : Keyed h w start = λ r c row column. starting_blank h w picture r c h₂ w₂ row column in
      let from : (r c : ℕ) → r < h → c < w → s₀ c r ≡ start r c = λ r c row column. over r c row column ∙ begun r c row column in
      let keyed-s₀ : Keyed w h s₀ = λ c r column row. subst (λ (x : ℕ). x ≤ blank) (sym (from r c row column)) (keyed r c row column) in
      let n = first keyed-s₀ in
      let keyed-s₁ : Keyed w h s₁ = keyed_same w h s₁ _ n.1 (sweeps_keyed m West w h s₀ keyed-s₀ north) in
      let s = second keyed-s₁ in
      let a : Across m low h w start s₁ north = phase_across m low h w start s₀ s₁ north from n.0 n.1 in
      let middle : Image = sweeps m North h w start north in
      let b : Across m high h w middle s₂ south = phase_across m high h w middle s₁ s₂ south a.image s.0 s.1 in
      let after : Image = after_two m North South h w start north south in
      let same₁ : Same h w k₁ after = λ r c row column. back c r column row ∙ b.image r c row column in
      let keyed-after : Keyed h w after = sweeps_keyed m South h w middle (sweeps_keyed m North h w start keyed north) south in
      let keyed-k₁ : Keyed h w k₁ = keyed_same h w k₁ after same₁ keyed-after in
      let t = third keyed-k₁ in
      let same₂ : Same h w k₂ (sweeps m West h w after west) = λ r c row column. t.1 r c row column ∙ sweeps_same m West h w k₁ after same₁ west r c row column in
      let f = fourth (keyed_same h w k₂ _ same₂ (sweeps_keyed m West h w after keyed-after west)) in
      let phases : Phases m h w picture (north + south + west + east) =
      record {
        north = north;
        south = south;
        west = west;
        east = east;
        columns = record { first_ends = a.first; second_ends = b.first };
        rows = record {
          first_ends = first_idle_same h w _ _ west (sweeps_same m West h w k₁ after same₁) t.0;
          second_ends = first_idle_same h w _ _ east (sweeps_same m East h w k₂ (sweeps m West h w after west) same₂) f.0;
        };
        sum = refl;
      } in
      let settles = phases_settle m h w picture (north + south + west + east) law splits h₁ h₂ w₁ w₂ phases in (
        (λ r c row column. f.1 r c row column ∙ sweeps_same m East h w k₂ (sweeps m West h w after west) same₂ east r c row column ∙ settles.0 r c row column),
        phases,
        settles.1,
      )
