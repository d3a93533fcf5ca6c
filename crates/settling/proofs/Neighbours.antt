-- The propagation equation row by row.
use Rattle.std.proofs.Common.{◌≡◌, ℕ, ◌<◌, ◌≤◌, min, max, cond, eqb, sym, ap, ◌∙◌, ⊎_elim, arith}
use Rattle.std.proofs.lemmas.Bool.{cases_eq, cases_lt, cond-true, cond-false, eq-eqb, ne_eqb, le-leb, lt-leb}
use Rattle.sheet.specs.Pixels.{apart, ring, weight_of}
use Rattle.sheet.specs.Keys.{stepped}
use Rattle.sheet.specs.Images.{Image}
use Rattle.sheet.proofs.Weights.{weight_straight, weight_diagonal}
use Rattle.transform.specs.Free.{spread}
use Rattle.settling.specs.Within.{offered}

-- the keys that a row is offered: the pixel's own row, and one beside it
abbrev pub middle_of : ℕ → ℕ → ℕ → ℕ → ℕ
middle_of key s row r = cond (eqb r row) key (stepped key s)

abbrev pub side_of : ℕ → ℕ → ℕ → ℕ → ℕ → ℕ
side_of key s d row r = cond (eqb r row) (stepped key s) (stepped key d)

pub keys_own : (key near s d row r : ℕ) → near ≡ stepped key s → r ≡ row → ◌≡◌ {A = ℕ × ℕ} (key, near) (middle_of key s row r, side_of key s d row r)
keys_own key near s d row r e p =
    let m : key ≡ middle_of key s row r = sym (cond-true _ _ _ (eq-eqb _ _ p)) in
    let n : near ≡ side_of key s d row r = e ∙ sym (cond-true _ _ _ (eq-eqb _ _ p)) in
    λ k. (m k, n k)

pub keys_beside : (key near across s d row r : ℕ) → near ≡ stepped key s → across ≡ stepped key d → (r ≡ row → ⊥) → ◌≡◌ {A = ℕ × ℕ} (near, across) (middle_of key s row r, side_of key s d row r)
keys_beside key near across s d row r e g p =
    let m : near ≡ middle_of key s row r = e ∙ sym (cond-false _ _ _ (ne_eqb _ _ p)) in
    let n : across ≡ side_of key s d row r = g ∙ sym (cond-false _ _ _ (ne_eqb _ _ p)) in
    λ k. (m k, n k)

module _ (s d : ℕ) (f : Image) (row column : ℕ) where
  -- a pixel that is no neighbour keeps its key
  pub spread_far : (r c : ℕ) → (ring row column r c ≡ 1 → ⊥) → spread s d f row column r c ≡ f r c
  unfolding spread
  spread_far r c n = cond-false _ _ _ (ne_eqb _ _ n)

  pub spread_near : (r c : ℕ) → ring row column r c ≡ 1 → spread s d f row column r c ≡ min (f r c) (stepped (f row column) (weight_of s d (apart column c) (apart row r)))
  unfolding spread
  spread_near r c e = cond-true _ _ _ (eq-eqb _ _ e)

  pub spread_off : (r c : ℕ) → 1 < apart row r → spread s d f row column r c ≡ f r c
  unfolding ring
  spread_off r c p = spread_far r c (λ e. go (apart column c) (apart row r) p e)
    where
      go : (x y : ℕ) → 1 < y → max x y ≡ 1 → ⊥
      go x y p e = omega arith

  -- a row at most one away is offered to as the equation says
  pub spread_line : (r c : ℕ) → apart row r ≤ 1 → offered (middle_of (f row column) s row r) (side_of (f row column) s d row r) column (f r) c ≡ spread s d f row column r c
  unfolding ring
  spread_line r c near =
      ⊎_elim
      (λ (u : 1 < apart column c). cond-false _ _ _ (lt-leb _ _ u) ∙ sym (spread_far r c (wide (apart column c) (apart row r) u)))
      (λ (u : apart column c ≤ 1).
      cond-true _ _ _ (le-leb _ _ u)
      ∙ ⊎_elim
      (λ (p : r ≡ row).
      ⊎_elim
      (λ (q : c ≡ column).
      ap (min (f r c)) (cond-true _ _ _ (eq-eqb _ _ q) ∙ cond-true _ _ _ (eq-eqb _ _ p) ∙ (λ k. f (sym p k) (sym q k)))
      ∙ twice (f r c)
      ∙ sym (spread_far r c (here row column r c p q)))
      (λ (q : c ≡ column → ⊥).
      ap (min (f r c)) (cond-false _ _ _ (ne_eqb _ _ q) ∙ cond-true _ _ _ (eq-eqb _ _ p) ∙ ap (stepped (f row column)) (sym (weight_straight s d (apart column c) (apart row r) (omega arith))))
      ∙ sym (spread_near r c (omega arith)))
      (cases_eq c column))
      (λ (p : r ≡ row → ⊥).
      ⊎_elim
      (λ (q : c ≡ column).
      ap (min (f r c)) (cond-true _ _ _ (eq-eqb _ _ q) ∙ cond-false _ _ _ (ne_eqb _ _ p) ∙ ap (stepped (f row column)) (sym (weight_straight s d (apart column c) (apart row r) (omega arith))))
      ∙ sym (spread_near r c (omega arith)))
      (λ (q : c ≡ column → ⊥).
      ap (min (f r c)) (cond-false _ _ _ (ne_eqb _ _ q) ∙ cond-false _ _ _ (ne_eqb _ _ p) ∙ ap (stepped (f row column)) (sym (weight_diagonal s d (apart column c) (apart row r) (omega arith))))
      ∙ sym (spread_near r c (omega arith)))
      (cases_eq c column))
      (cases_eq r row))
      (cases_lt 1 (apart column c))
    where
      wide : (x y : ℕ) → 1 < x → max x y ≡ 1 → ⊥
      wide x y p e = omega arith

      here : (row column r c : ℕ) → r ≡ row → c ≡ column → ring row column r c ≡ 1 → ⊥
      here row column r c p q e = omega arith

      twice : (n : ℕ) → min n n ≡ n
      twice n = omega arith
