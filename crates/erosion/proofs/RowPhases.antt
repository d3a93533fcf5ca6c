-- What is known between the rounds of a phase of one row, and between the rows of a phase.
use Rattle.std.proofs.Common.{◌≡◌, ℕ, zero, suc, ◌+◌, ◌<◌, ◌≤◌, max, sym, refl, ◌∙◌, subst, ⊎_elim, arith}
use Rattle.std.proofs.lemmas.Bool.{cases_lt}
use Rattle.sheet.specs.declared.direction.Direction.{Direction}
use Rattle.sheet.specs.Keys.{blank}
use Rattle.sheet.specs.Images.{Image}
use Rattle.metric.specs.Model.{Model}
use Rattle.transform.specs.Directional.{swept, sweeps, AlongRows, Keyed}
use Rattle.transform.specs.Erosion.{FirstIdle}
use Rattle.transform.proofs.Directional.{sweeps_keyed}
use Rattle.erosion.specs.Phases.{RowIdle, RowDone, RowPhase}
use Rattle.erosion.proofs.Walks.{swept_along}

-- g has the row r after k rounds of a phase from f, and g' that of g after one more, with the weight v of level k + 1
module _ (m : Model) (d : Direction) (along : AlongRows d) (h w : ℕ) (f g g' : Image) (r k v : ℕ) (done : RowDone w (sweeps m d h w f) r k g) (level : v ≡ m.straight (suc k)) (round : (c : ℕ) → c < w → g' r c ≡ swept d h w v g r c) where
  row_next : (c : ℕ) → c < w → g' r c ≡ sweeps m d h w f (suc k) r c
  unfolding sweeps
  row_next c on = round c on ∙ (λ i. swept d h w (level i) g r c) ∙ swept_along d h w (m.straight (suc k)) g (sweeps m d h w f k) r along done.line c on

  -- the round altered the row
  pub row_more : (((c : ℕ) → c < w → swept d h w v g r c ≡ g r c) → ⊥) → RowDone w (sweeps m d h w f) r (k + 1) g'
  row_more busy =
      let e : suc k ≡ k + 1 = omega arith in
      record {
        line = λ c on. row_next c on ∙ (λ i. sweeps m d h w f (e i) r c);
        busy = λ j p idle.
            ⊎_elim
            (λ (l : j < k). done.busy j l idle)
            (λ (l : k ≤ j).
            let q : j ≡ k = omega arith in
            busy (λ c on.
            sym (round c on) ∙ row_next c on
            ∙ (λ i. sweeps m d h w f (suc (sym q i)) r c) ∙ idle c on ∙ (λ i. sweeps m d h w f (q i) r c)
            ∙ sym (done.line c on)))
            (cases_lt j k);
      }

  -- the round left the row as it was
  pub row_last : ((c : ℕ) → c < w → swept d h w v g r c ≡ g r c) → RowPhase w (sweeps m d h w f) r (k + 1) g'
  row_last idle =
      let e : k + 1 ≡ suc k = omega arith in
      record {
        before = k;
        next = e;
        idle = λ c on. sym (row_next c on) ∙ round c on ∙ idle c on ∙ done.line c on;
        busy = done.busy;
        line = λ c on. row_next c on ∙ (λ i. sweeps m d h w f (sym e i) r c);
      }

-- the same series on the row
pub row_phase_same : (w : ℕ) (series series' : ℕ → Image) (r n : ℕ) (g : Image) → ((i c : ℕ) → c < w → series i r c ≡ series' i r c) → RowPhase w series r n g → RowPhase w series' r n g
row_phase_same w series series' r n g same phase = record {
  before = phase.before;
  next = phase.next;
  idle = idle_same series series' same phase.before phase.idle;
  busy = λ i p idle. phase.busy i p (idle_same series' series (λ i c on. sym (same i c on)) i idle);
  line = λ c on. phase.line c on ∙ same n c on;
}
  where
    idle_same : (s s' : ℕ → Image) → ((i c : ℕ) → c < w → s i r c ≡ s' i r c) → (i : ℕ) → RowIdle w s r i → RowIdle w s' r i
    idle_same s s' e i idle c on = sym (e (suc i) c on) ∙ idle c on ∙ e i c on

-- a row's rounds depend on that row alone
pub sweeps_along : (m : Model) (d : Direction) (h w : ℕ) (f g : Image) (r : ℕ) → AlongRows d → ((c : ℕ) → c < w → f r c ≡ g r c) → (i c : ℕ) → c < w → sweeps m d h w f i r c ≡ sweeps m d h w g i r c
unfolding sweeps
sweeps_along m d h w f g r along same zero c on = same c on
sweeps_along m d h w f g r along same (suc i) c on =
    swept_along d h w (m.straight (suc i)) (sweeps m d h w f i) (sweeps m d h w g i) r along (sweeps_along m d h w f g r along same i) c on

-- the rows before the given one are done: g holds them after `most` rounds, from which on they stay as they are, and not all
-- of them did so sooner
pub record RowsDone (w : ℕ) (series : ℕ → Image) (row most : ℕ) (g : Image) : Type 0 where
  pub line : (r c : ℕ) → r < row → c < w → g r c ≡ series most r c
  pub idle : (r i : ℕ) → r < row → most ≤ suc i → i < 1024 → RowIdle w series r i
  pub busy : (i : ℕ) → suc i < most → ((r : ℕ) → r < row → RowIdle w series r i) → ⊥
  pub some : 1 ≤ row → 1 ≤ most
  pub few : most ≤ 1024

-- rounds that leave a row as it is
still : (w : ℕ) (series : ℕ → Image) (r a b : ℕ) → a ≤ b → ((i : ℕ) → a ≤ i → i < b → RowIdle w series r i) → (c : ℕ) → c < w → series a r c ≡ series b r c
still w series r a zero le idle c on = let e : a ≡ zero = omega arith in λ k. series (e k) r c
still w series r a (suc b) le idle c on =
    ⊎_elim
    (λ (l : a < suc b). still w series r a b (omega arith) (λ i p q. idle i p (omega arith)) c on ∙ sym (idle b (omega arith) (omega arith) c on))
    (λ (l : suc b ≤ a). let e : a ≡ suc b = omega arith in λ k. series (e k) r c)
    (cases_lt a (suc b))

module _ (w : ℕ) (series : ℕ → Image) (stays : (r i j : ℕ) → i ≤ j → j < 1024 → RowIdle w series r i → RowIdle w series r j) where
  pub rows_more : (row most n : ℕ) (g g' : Image) → n ≤ 1024 → RowsDone w series row most g → RowPhase w series row n g' → ((r c : ℕ) → c < w → (r ≡ row → ⊥) → g' r c ≡ g r c) → RowsDone w series (row + 1) (max n most) g'
  rows_more row most n g g' fits done phase others =
      let before : (i : ℕ) → max n most ≤ suc i → i < 1024 → RowIdle w series row i = λ i p top. stays row phase.before i (omega (arith, phase.next)) top phase.idle in
      record {
        line = λ r c p on.
            ⊎_elim
            (λ (l : r < row).
            others r c on (λ e. omega arith) ∙ done.line r c l on
            ∙ still w series r most (max n most) (omega arith) (λ i a b. done.idle r i l (omega arith) (omega (arith, done.few))) c on)
            (λ (l : row ≤ r).
            let e : r ≡ row = omega arith in
            (λ k. g' (e k) c) ∙ phase.line c on
            ∙ still w series row n (max n most) (omega arith) (λ i a b. stays row phase.before i (omega (arith, phase.next)) (omega (arith, done.few)) phase.idle) c on
            ∙ (λ k. series (max n most) (sym e k) c))
            (cases_lt r row);
        idle = λ r i p q top.
            ⊎_elim
            (λ (l : r < row). done.idle r i l (omega arith) top)
            (λ (l : row ≤ r). let e : row ≡ r = omega arith in subst (λ (x : ℕ). RowIdle w series x i) e (before i q top))
            (cases_lt r row);
        busy = λ i p all.
            ⊎_elim
            (λ (l : suc i < most). done.busy i l (λ r q. all r (omega arith)))
            (λ (l : most ≤ suc i). phase.busy i (omega (arith, phase.next)) (all row (omega arith)))
            (cases_lt (suc i) most);
        some = λ _. omega (arith, phase.next);
        few = omega (arith, done.few);
      }

  pub rows_all : (h most : ℕ) (g : Image) → 1 ≤ h → RowsDone w series h most g → FirstIdle h w series most
  rows_all h zero g tall done = absurd (omega (arith, done.some tall))
  rows_all h (suc n) g tall done = record {
    before = n;
    next = refl;
    idle = λ r c row on. done.idle r n row (omega arith) (omega (arith, done.few)) c on;
    busy = λ i p idle. done.busy i (omega arith) (λ r row c on. idle r c row on);
  }

-- with the rows that are not begun as they were in f, all is keyed
pub rows_keyed : (m : Model) (d : Direction) (h w row most : ℕ) (f g : Image) → Keyed h w f → RowsDone w (sweeps m d h w f) row most g → ((r c : ℕ) → row ≤ r → c < w → g r c ≡ f r c) → Keyed h w g
rows_keyed m d h w row most f g keyed done rest r c on column =
    ⊎_elim
    (λ (l : r < row). subst (λ (x : ℕ). x ≤ blank) (sym (done.line r c l column)) (sweeps_keyed m d h w f keyed most r c on column))
    (λ (l : row ≤ r). subst (λ (x : ℕ). x ≤ blank) (sym (rest r c l column)) (keyed r c on column))
    (cases_lt r row)
