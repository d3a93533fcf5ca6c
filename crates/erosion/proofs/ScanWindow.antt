-- What a scan reads along its way, and that it makes the sequential erosion equation true.
use Rattle.std.proofs.Common.{◌≡◌, ℕ, ◌+◌, ◌-◌, ◌*◌, ◌<◌, ◌≤◌, min, max, Bool, true, cond, ◌&&◌, ltb, ◌⊎◌, sym, refl, ap, ◌∙◌, subst, inl, inr, ⊎_elim, le_trans, mul_comm, le_antisymm, arith}
use Rattle.std.proofs.lemmas.Bool.{cases_lt, cases_order, cond_both, lt-ltb, ltb-true}
use Rattle.std.proofs.lemmas.Nat.{mul-add-lt}
use Rattle.std.proofs.lemmas.Bool.Decides.{nat_tests}
use Rattle.sheet.specs.Pixels.{place_of, apart, ring, weight_of}
use Rattle.sheet.specs.Keys.{blank, stepped}
use Rattle.sheet.specs.Images.{Image, Same, least_on}
use Rattle.sheet.proofs.Weights.{weight_straight, weight_diagonal}
use Rattle.transform.specs.Erosion.{offer}
use Rattle.transform.specs.Raster.{scanned, Scan}
use Rattle.transform.proofs.Raster.{scanned_own, scanned_blank, scanned_near, le_scanned}
use Rattle.erosion.specs.declared.raster.Sense.{Sense}
use Rattle.erosion.specs.declared.raster.Sense.TheVariants.{Rising, Falling}
use Rattle.erosion.specs.Rounds.{before_in}
use Rattle.erosion.specs.Walks.{turn, turned_image}
use Rattle.erosion.specs.Window.{west_of, prior_of, lowest_of, window_of}
use Rattle.erosion.proofs.Walks.{cond_same, turn_back, turn_on}
use Rattle.erosion.proofs.Window.{le_min, step_le}

pub west_same : (f g : Image) (r c : ℕ) → (0 < c → f r (c - 1) ≡ g r (c - 1)) → west_of f r c ≡ west_of g r c
west_same f g r c same = cond_same (ltb 0 c) _ _ blank (λ e. same (ltb-true 0 c e))

pub prior_same : (w : ℕ) (f g : Image) (r c : ℕ) → (0 < r → c < w → f (r - 1) c ≡ g (r - 1) c) → prior_of w f r c ≡ prior_of w g r c
prior_same w f g r c same = cond_same (ltb 0 r && ltb c w) _ _ blank (λ e. let a : 0 < r = grind (arith, nat_tests) in let b : c < w = grind (arith, nat_tests) in same a b)

-- images that agree on a row and on the row before give the same window there
pub window_same : (w s d : ℕ) (f g g' : Image) (r c : ℕ) → c < w → ((k : ℕ) → k < w → g r k ≡ g' r k) → (0 < r → (k : ℕ) → k < w → g (r - 1) k ≡ g' (r - 1) k) → window_of w s d f g r c ≡ window_of w s d f g' r c
window_same w s d f g g' r c on same prior =
    let above : (k : ℕ) → prior_of w g r k ≡ prior_of w g' r k = λ k. prior_same w g g' r k (λ p q. prior p k q) in
    let west = west_same g g' r c (λ p. same (c - 1) (omega arith)) in
    let corner = west_same (prior_of w g) (prior_of w g') r c (λ _. above (c - 1)) in
    λ x. lowest_of (f r c) (min (west x) (above c x)) (min (corner x) (above (c + 1) x)) s d

-- i', j' comes before i, j where rows and columns rise
abbrev pub Earlier : ℕ → ℕ → ℕ → ℕ → Type 0
Earlier i' j' i j = (i' < i) ⊎ ((i' ≡ i) × (j' < j))

module _ (w s d : ℕ) (f g : Image) (i j : ℕ) (on : j < w) where
  near : ℕ
  near = min (west_of g i j) (prior_of w g i j)

  across : ℕ
  across = min (west_of (prior_of w g) i j) (prior_of w g i (j + 1))

  prior_le : (k b : ℕ) → 0 < i → k < w → k ≡ b → prior_of w g i k ≤ g (i - 1) b
  prior_le k b p q e = let y = ap (g (i - 1)) e in grind (arith, nat_tests)

  west_le : (q : Image) (b : ℕ) → 0 < j → j - 1 ≡ b → west_of q i j ≤ q i b
  west_le q b p e = let y = ap (q i) e in grind (arith, nat_tests)

  -- the window's least is below each earlier neighbour's key stepped
  pub window_below : (i' j' : ℕ) → j' < w → Earlier i' j' i j → max (apart j j') (apart i i') ≡ 1 → window_of w s d f g i j ≤ stepped (g i' j') (weight_of s d (apart j j') (apart i i'))
  unfolding near across
  window_below i' j' on' first one =
      let P : ℕ → Type 0 = λ z. window_of w s d f g i j ≤ stepped (g i' j') z in
      let by_near : near ≤ g i' j' → apart j j' + apart i i' ≡ 1 → P (weight_of s d (apart j j') (apart i i')) =
      λ le lone. let k : P s = le_trans (omega arith) (step_le near (g i' j') s le) in subst P (sym (weight_straight s d (apart j j') (apart i i') lone)) k in
      let by-across : across ≤ g i' j' → apart j j' + apart i i' ≡ 2 → P (weight_of s d (apart j j') (apart i i')) =
      λ le two. let k : P d = le_trans (omega arith) (step_le across (g i' j') d le) in subst P (sym (weight_diagonal s d (apart j j') (apart i i') two)) k in
      ⊎_elim
      (λ (up : i' < i).
      let e : i - 1 ≡ i' = omega arith in
      let y = ap (λ (z : ℕ). g z j') e in
      ⊎_elim
      (λ (same : j' ≡ j). by_near (let u = prior_le j j' (omega arith) on (sym same) in omega arith) (omega arith))
      (⊎_elim
      (λ (l : j' < j). by-across (let u = prior_le (j - 1) j' (omega arith) (omega arith) (omega arith) in let v = west_le (prior_of w g) (j - 1) (omega arith) refl in omega arith) (omega arith))
      (λ (l : j < j'). by-across (let u = prior_le (j + 1) j' (omega arith) (omega arith) (omega arith) in omega arith) (omega arith)))
      (cases_order j' j))
      (λ (along : (i' ≡ i) × (j' < j)).
      let y = ap (λ (z : ℕ). g z j') along.0 in
      let l = along.1 in
      let e = along.0 in
      by_near (let v = west_le g j' (omega arith) (omega arith) in omega arith) (omega arith))
      first

  -- and the greatest such number up to the own key and blank
  pub window_above : (k : ℕ) → k ≤ blank → k ≤ f i j → ((i' j' : ℕ) → i' ≤ i → j' < w → Earlier i' j' i j → max (apart j j') (apart i i') ≡ 1 → k ≤ stepped (g i' j') (weight_of s d (apart j j') (apart i i'))) → k ≤ window_of w s d f g i j
  unfolding near across
  window_above k small own offers =
      let off : (v : ℕ) → k ≤ stepped blank v = λ v. omega arith in
      let straight : (i' j' : ℕ) → i' ≤ i → j' < w → Earlier i' j' i j → apart j j' + apart i i' ≡ 1 → k ≤ stepped (g i' j') s =
      λ i' j' p q first lone. subst (λ (z : ℕ). k ≤ stepped (g i' j') z) (weight_straight s d (apart j j') (apart i i') lone) (offers i' j' p q first (omega arith)) in
      let diagonal : (i' j' : ℕ) → i' ≤ i → j' < w → Earlier i' j' i j → apart j j' ≡ 1 → apart i i' ≡ 1 → k ≤ stepped (g i' j') d =
      λ i' j' p q first x y. subst (λ (z : ℕ). k ≤ stepped (g i' j') z) (weight_diagonal s d (apart j j') (apart i i') (omega arith)) (offers i' j' p q first (omega arith)) in
      let prior : (v b : ℕ) → (0 < i → b < w → k ≤ stepped (g (i - 1) b) v) → k ≤ stepped (prior_of w g i b) v =
      λ v b h. cond_both (ltb 0 i && ltb b w) _ blank (λ (x : ℕ). k ≤ stepped x v) (λ t. let p : 0 < i = grind (arith, nat_tests) in let q : b < w = grind (arith, nat_tests) in h p q) (λ t. off v) in
      let u : k ≤ stepped near s =
      le_min k _ _ s
      (cond_both (ltb 0 j) _ blank (λ (x : ℕ). k ≤ stepped x s) (λ t. let l = ltb-true 0 j t in straight i (j - 1) (omega arith) (omega arith) (inr (refl, omega arith)) (omega arith)) (λ t. off s))
      (prior s j (λ p q. straight (i - 1) j (omega arith) q (inl (omega arith)) (omega arith))) in
      let v : k ≤ stepped across d =
      le_min k _ _ d
      (cond_both (ltb 0 j) _ blank (λ (x : ℕ). k ≤ stepped x d)
      (λ t. let l = ltb-true 0 j t in prior d (j - 1) (λ p q. diagonal (i - 1) (j - 1) (omega arith) q (inl (omega arith)) (omega arith) (omega arith)))
      (λ t. off d))
      (prior d (j + 1) (λ p q. diagonal (i - 1) (j + 1) (omega arith) q (inl (omega arith)) (omega arith) (omega arith))) in
      omega arith

-- counted from either end, two lie as far apart
apart_turn : (b : Sense) (n i j : ℕ) → i < n → j < n → apart (turn b n i) (turn b n j) ≡ apart i j
apart_turn Falling n i j p q = omega arith
apart_turn Rising n i j p q = refl

-- a place in an earlier row is less
place_row : (w r c r' c' : ℕ) → r' < r → c' < w → place_of w r' c' < place_of w r c
place_row w r c r' c' up on = omega (arith, mul-add-lt r' w c' r up on, mul_comm w r)

place_column : (w r c r' c' : ℕ) → r' ≡ r → c' < c → place_of w r' c' < place_of w r c
place_column w r c r' c' e l = omega (arith, ap (λ (n : ℕ). n * w) e)

module _ (h w i j i' j' : ℕ) (row : i < h) (on : j < w) (row' : i' < h) (on' : j' < w) where
  -- what is earlier has a place that comes before
  earlier_before : (b : Sense) → Earlier i' j' i j → before_in b (place_of w (turn b h i') (turn b w j')) (place_of w (turn b h i) (turn b w j)) ≡ true
  earlier_before Falling (inl up) = lt-ltb _ _ (place_row w (turn Falling h i') (turn Falling w j') (turn Falling h i) (turn Falling w j) (omega arith) (omega arith))
  earlier_before Falling (inr along) = let e = along.0 in let l = along.1 in lt-ltb _ _ (place_column w (turn Falling h i') (turn Falling w j') (turn Falling h i) (turn Falling w j) (omega arith) (omega arith))
  earlier_before Rising (inl up) = lt-ltb _ _ (place_row w i j i' j' up on')
  earlier_before Rising (inr along) = lt-ltb _ _ (place_column w i j i' j' along.0 along.1)

-- and the other way round: of two that are not the same, one is earlier
before_earlier : (b : Sense) (h w i j i' j' : ℕ) → i < h → j < w → i' < h → j' < w → before_in b (place_of w (turn b h i') (turn b w j')) (place_of w (turn b h i) (turn b w j)) ≡ true → Earlier i' j' i j
before_earlier b h w i j i' j' row on row' on' first =
    ⊎_elim
    (λ (same : i' ≡ i).
    ⊎_elim
    (λ (l : j' < j). inr (same, l))
    (λ (l : j ≤ j'). ⊎_elim (λ (m : j < j'). absurd (not_both b _ _ (earlier_before h w i' j' i j row' on' row on b (inr (sym same, m))) first)) (λ (m : j' ≤ j). let level : j' ≡ j = omega arith in absurd (not_itself b _ _ (λ k. place_of w (turn b h (same k)) (turn b w (level k))) first)) (cases_lt j j'))
    (cases_lt j' j))
    (⊎_elim
    (λ (l : i' < i). inl l)
    (λ (l : i < i'). absurd (not_both b _ _ (earlier_before h w i' j' i j row' on' row on b (inl l)) first)))
    (cases_order i' i)
  where
    not_both : (b : Sense) (p q : ℕ) → before_in b p q ≡ true → before_in b q p ≡ true → ⊥
    not_both Falling p q x y = omega (arith, ltb-true _ _ x, ltb-true _ _ y)
    not_both Rising p q x y = omega (arith, ltb-true _ _ x, ltb-true _ _ y)

    not_itself : (b : Sense) (p q : ℕ) → p ≡ q → before_in b p q ≡ true → ⊥
    not_itself Falling p q e t = omega (arith, ltb-true _ _ t)
    not_itself Rising p q e t = omega (arith, ltb-true _ _ t)

lowest_blank : (own near across s d : ℕ) → lowest_of own near across s d ≤ blank
lowest_blank own near across s d = omega arith

lowest_own : (own near across s d : ℕ) → lowest_of own near across s d ≤ own
lowest_own own near across s d = omega arith

-- an image that has the window's key at each pixel, as the scan counts, makes the sequential equation true
module _ (b : Sense) (h w s d : ℕ) (f g : Image) (window : (i j : ℕ) → i < h → j < w → turned_image b h w g i j ≡ window_of w s d (turned_image b h w f) (turned_image b h w g) i j) where
  -- as the scan counts
  at_pixel : (i j : ℕ) → i < h → j < w → turned_image b h w g i j ≡ scanned (before_in b) h w s d f g (turn b h i) (turn b w j)
  unfolding ring
  at_pixel i j row on =
      let r : ℕ = turn b h i in
      let c : ℕ = turn b w j in
      let key : ℕ = scanned (before_in b) h w s d f g r c in
      let rows : (i' : ℕ) → i' < h → apart r (turn b h i') ≡ apart i i' = λ i' p. apart_turn b h i i' row p in
      let columns : (j' : ℕ) → j' < w → apart c (turn b w j') ≡ apart j j' = λ j' p. apart_turn b w j j' on p in
      window i j row on
      ∙ le_antisymm
      (le_scanned (before_in b) h w s d f g r c _ (lowest_blank _ _ _ s d) (lowest_own _ _ _ s d)
      (λ r' c' row' on' first one.
      let i' : ℕ = turn b h r' in
      let j' : ℕ = turn b w c' in
      let p : i' < h = turn_on b h r' row' in
      let q : j' < w = turn_on b w c' on' in
      let er : turn b h i' ≡ r' = turn_back b h r' i' row' refl in
      let ec : turn b w j' ≡ c' = turn_back b w c' j' on' refl in
      let er' : apart i i' ≡ apart r r' = sym (rows i' p) ∙ (λ k. apart r (er k)) in
      let ec' : apart j j' ≡ apart c c' = sym (columns j' q) ∙ (λ k. apart c (ec k)) in
      coe 0 1 (k. window_of w s d (turned_image b h w f) (turned_image b h w g) i j ≤ stepped (g (er k) (ec k)) (weight_of s d (ec' k) (er' k)))
      (window_below w s d (turned_image b h w f) (turned_image b h w g) i j on i' j' q
      (before_earlier b h w i j i' j' row on p q ((λ k. before_in b (place_of w (er k) (ec k)) (place_of w r c)) ∙ first))
      ((λ k. max (ec' k) (er' k)) ∙ one))))
      (window_above w s d (turned_image b h w f) (turned_image b h w g) i j on key (scanned_blank (before_in b) h w s d f g r c) (scanned_own (before_in b) h w s d f g r c)
      (λ i' j' p q first one.
      let row' : i' < h = omega arith in
      coe 0 1 (k. key ≤ stepped (turned_image b h w g i' j') (weight_of s d (columns j' q k) (rows i' row' k)))
      (scanned_near (before_in b) h w s d f g r c (turn b h i') (turn b w j') (turn_on b h i' row') (turn_on b w j' q) (earlier_before h w i j i' j' row on row' q b first)
      ((λ k. max (columns j' q k) (rows i' row' k)) ∙ one))))

  pub window_scans : Same h w g (scanned (before_in b) h w s d f g)
  window_scans r c row on =
      let er : turn b h (turn b h r) ≡ r = turn_back b h r (turn b h r) row refl in
      let ec : turn b w (turn b w c) ≡ c = turn_back b w c (turn b w c) on refl in
      coe 0 1 (k. g (er k) (ec k) ≡ scanned (before_in b) h w s d f g (er k) (ec k)) (at_pixel (turn b h r) (turn b w c) (turn_on b h r row) (turn_on b w c on))

-- a scan reads of the image before it only the pixels of the sheet
pub scan_same : (before : ℕ → ℕ → Bool) (h w s s' d d' : ℕ) (f f' g : Image) → s ≡ s' → d ≡ d' → Same h w f f' → Scan before h w s d f g → Scan before h w s' d' f' g
unfolding scanned
scan_same before h w s s' d d' f f' g es ed same scan r c row on =
    scan r c row on ∙ (λ k. min (same r c row on k) (least_on h w (λ r' c'. cond (before (place_of w r' c') (place_of w r c)) (offer (es k) (ed k) g r c r' c') blank)))
