-- The least on a sheet: below all that the image holds, and the greatest such number up to blank.
use Rattle.std.proofs.Common.{◌≡◌, ℕ, zero, suc, ◌<◌, ◌≤◌, min, eqb, sym, refl, subst, ⊎_elim, le_trans, le_antisymm, arith}
use Rattle.std.proofs.lemmas.Bool.{cases_lt, cond-true, cond_both, eq-eqb, eqb-true}
use Rattle.sheet.specs.Pixels.{apart, ring, weight_of}
use Rattle.sheet.specs.Keys.{blank, stepped}
use Rattle.sheet.specs.Images.{Image, Same, least, least_on}
use Rattle.transform.specs.Erosion.{offer, eroded}

pub least_le : (n : ℕ) (f : ℕ → ℕ) (k : ℕ) → k < n → least n f ≤ f k
unfolding least
least_le zero f k h = absurd (omega arith)
least_le (suc n) f k h =
    ⊎_elim
    (λ (below : k < n). let rest = least_le n f k below in omega arith)
    (λ (above : n ≤ k). let e : k ≡ n = omega arith in rw e (omega arith))
    (cases_lt k n)

pub least_blank : (n : ℕ) (f : ℕ → ℕ) → least n f ≤ blank
unfolding least
least_blank zero f = omega arith
least_blank (suc n) f = let rest = least_blank n f in omega arith

pub le_least : (n : ℕ) (f : ℕ → ℕ) (m : ℕ) → m ≤ blank → ((k : ℕ) → k < n → m ≤ f k) → m ≤ least n f
unfolding least
le_least zero f m b h = b
le_least (suc n) f m b h =
    let rest = le_least n f m b (λ k lt. h k (omega arith)) in
    let here = h n (omega arith) in
    omega arith

-- the least looks at the first n alone
pub least_same : (n : ℕ) (f g : ℕ → ℕ) → ((k : ℕ) → k < n → f k ≡ g k) → least n f ≡ least n g
unfolding least
least_same zero f g same = refl
least_same (suc n) f g same = λ i. min (least_same n f g (λ k lt. same k (omega arith)) i) (same n (omega arith) i)

pub least_on_le : (h w : ℕ) (f : Image) (r c : ℕ) → r < h → c < w → least_on h w f ≤ f r c
unfolding least_on
least_on_le h w f r c row column = le_trans (least_le h (λ r'. least w (f r')) r row) (least_le w (f r) c column)

pub least_on_blank : (h w : ℕ) (f : Image) → least_on h w f ≤ blank
unfolding least_on
least_on_blank h w f = least_blank h (λ r. least w (f r))

pub le_least_on : (h w : ℕ) (f : Image) (m : ℕ) → m ≤ blank → ((r c : ℕ) → r < h → c < w → m ≤ f r c) → m ≤ least_on h w f
unfolding least_on
le_least_on h w f m b all = le_least h (λ r. least w (f r)) m b (λ r row. le_least w (f r) m b (λ c column. all r c row column))

-- what each neighbour of r, c on the sheet offers is at least m
abbrev pub BelowOffers : ℕ → ℕ → ℕ → ℕ → Image → ℕ → ℕ → ℕ → Type 0
BelowOffers h w straight diagonal f r c m = (r' c' : ℕ) → r' < h → c' < w → ring r c r' c' ≡ 1 → m ≤ stepped (f r' c') (weight_of straight diagonal (apart c c') (apart r r'))

-- the eroded key is at most the own key, each offer and blank, and the greatest such number
module _ (h w straight diagonal : ℕ) (f : Image) (r c : ℕ) where
  pub eroded_own : eroded h w straight diagonal f r c ≤ f r c
  unfolding eroded
  eroded_own = omega arith

  pub eroded_blank : eroded h w straight diagonal f r c ≤ blank
  unfolding eroded
  eroded_blank = let low = least_on_blank h w (offer straight diagonal f r c) in omega arith

  pub eroded_near : BelowOffers h w straight diagonal f r c (eroded h w straight diagonal f r c)
  unfolding eroded
  eroded_near r' c' row column near =
      let offers : Image = offer straight diagonal f r c in
      let bound : least_on h w offers ≤ offers r' c' = least_on_le h w offers r' c' row column in
      let same : offers r' c' ≡ stepped (f r' c') (weight_of straight diagonal (apart c c') (apart r r')) = cond-true _ _ _ (eq-eqb _ _ near) in
      le_trans (omega arith) (subst (λ (x : ℕ). least_on h w offers ≤ x) same bound)

  pub le_eroded : (m : ℕ) → m ≤ blank → m ≤ f r c → BelowOffers h w straight diagonal f r c m → m ≤ eroded h w straight diagonal f r c
  unfolding eroded
  le_eroded m b own near =
      let bound : m ≤ least_on h w (offer straight diagonal f r c) =
      le_least_on h w (offer straight diagonal f r c) m b (λ r' c' row column. cond_both (eqb (ring r c r' c') 1) _ blank (λ (x : ℕ). m ≤ x) (λ e. near r' c' row column (eqb-true _ _ e)) (λ e. b)) in
      omega arith

-- erosion looks at the sheet alone
pub eroded_same : (h w straight diagonal : ℕ) (f g : Image) → Same h w f g → Same h w (eroded h w straight diagonal f) (eroded h w straight diagonal g)
eroded_same h w straight diagonal f g same r c row column =
    le_antisymm (one f g same) (one g f (λ r c row column. sym (same r c row column)))
  where
    one : (f g : Image) → Same h w f g → eroded h w straight diagonal f r c ≤ eroded h w straight diagonal g r c
    one f g same =
        le_eroded h w straight diagonal g r c _ (eroded_blank h w straight diagonal f r c)
        (subst (λ (x : ℕ). eroded h w straight diagonal f r c ≤ x) (same r c row column) (eroded_own h w straight diagonal f r c))
        (λ r' c' row' column' near.
        subst (λ (x : ℕ). eroded h w straight diagonal f r c ≤ stepped x (weight_of straight diagonal (apart c c') (apart r r'))) (same r' c' row' column')
        (eroded_near h w straight diagonal f r c r' c' row' column' near))
