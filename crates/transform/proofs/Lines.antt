-- Rounds along one line of pixels, in which each pixel takes from its neighbour on one side.
use Rattle.std.proofs.Common.{◌≡◌, ℕ, zero, suc, ◌+◌, ◌-◌, ◌*◌, ◌<◌, ◌≤◌, min, cond, ltb, sym, refl, ap, ◌∙◌, subst, ⊎_elim, le_trans, le_refl, le_antisymm, arith}
use native.Mathlib.Decide.{le_ind}
use Rattle.std.proofs.lemmas.Bool.{cases_lt, cond-true, cond_both, lt-ltb, ltb-true}
use Rattle.sheet.specs.Pixels.{apart}
use Rattle.sheet.specs.Keys.{blank, stepped}
use Rattle.sheet.specs.Images.{least}
use Rattle.transform.proofs.Least.{least_le, least_blank, le_least}

-- a pixel takes from the one before it, or from the one after it
pub data Side : Type 0 where
  low : Side
  high : Side

-- j' lies k pixels from j on that side
abbrev pub Along : Side → ℕ → ℕ → ℕ → Type 0
Along low j k j' = j ≡ j' + k
Along high j k j' = j' ≡ j + k

-- the key of the neighbour on that side; blank beyond the line of n pixels
abbrev pub beside : Side → ℕ → (ℕ → ℕ) → ℕ → ℕ
beside low n z j = cond (ltb 0 j) (z (j - 1)) blank
beside high n z j = cond (ltb (j + 1) n) (z (j + 1)) blank

unfoldable pub line_round : Side → ℕ → ℕ → (ℕ → ℕ) → ℕ → ℕ
line_round s n v z j = min (z j) (stepped (beside s n z j) v)

-- the line after i rounds, of which round i has the weight of i
unfoldable pub line_rounds : Side → ℕ → (ℕ → ℕ) → (ℕ → ℕ) → ℕ → ℕ → ℕ
line_rounds s n weight z zero = z
line_rounds s n weight z (suc i) = line_round s n (weight (suc i)) (line_rounds s n weight z i)

-- the round after i rounds alters nothing of the line
abbrev pub Still : Side → ℕ → (ℕ → ℕ) → (ℕ → ℕ) → ℕ → Type 0
Still s n weight z i = (j : ℕ) → j < n → line_rounds s n weight z (suc i) j ≡ line_rounds s n weight z i j

-- no weight is less than an earlier one
abbrev pub Rising : (ℕ → ℕ) → Type 0
Rising weight = (i j : ℕ) → 1 ≤ i → i ≤ j → j ≤ 1024 → weight i ≤ weight j

-- far sums the weights, which rise
pub record Climb (weight far : ℕ → ℕ) : Type 0 where
  pub rises : Rising weight
  pub none : far 0 ≡ 0
  pub more : (k : ℕ) → k < 1023 → far (suc k) ≡ far k + weight (suc k)

-- what is at most a key after two steps is at most that after one step by both weights or more
pub step_on : (x y u F G W : ℕ) → x ≤ stepped y W → y ≤ stepped u F → F + W ≤ G → x ≤ stepped u G
step_on x y u F G W p q e = omega arith

-- a step moved to the other side, where a number stops at 0 and needs no blank
pub step_back : (x u F G W : ℕ) → x ≤ stepped u G → G ≤ F + W → x - W * 1048576 ≤ stepped u F
step_back x u F G W p e = omega arith

pub le_stepped : (x y W : ℕ) → x - W * 1048576 ≤ y → x ≤ blank → x ≤ stepped y W
le_stepped x y W p q = omega arith

along_self : (s : Side) (j : ℕ) → Along s j 0 j
along_self low j = omega arith
along_self high j = omega arith

along_none : (s : Side) (j j' : ℕ) → Along s j 0 j' → j ≡ j'
along_none low j j' e = omega arith
along_none high j j' e = omega arith

along_below : (s : Side) (n j k j' : ℕ) → j < n → j' < n → Along s j k j' → k < n
along_below low n j k j' p q e = omega arith
along_below high n j k j' p q e = omega arith

along_join : (s : Side) (j j₁ k j' : ℕ) → Along s j 1 j₁ → Along s j₁ k j' → Along s j (suc k) j'
along_join low j j₁ k j' p q = omega arith
along_join high j j₁ k j' p q = omega arith

along_part : (s : Side) (n j k j' : ℕ) → j < n → j' < n → Along s j (suc k) j' → (j₁ : ℕ) × (j₁ < n) × Along s j 1 j₁ × Along s j₁ k j'
along_part low n j k j' p q e = (j' + k, omega arith, omega arith, refl)
along_part high n j k j' p q e = (j + 1, omega arith, refl, omega arith)

beside_near : (s : Side) (n : ℕ) (z : ℕ → ℕ) (j j₁ : ℕ) → j₁ < n → Along s j 1 j₁ → beside s n z j ≡ z j₁
beside_near low n z j j₁ on near =
    let e : j - 1 ≡ j₁ = omega arith in
    cond-true _ _ _ (lt-ltb 0 j (omega arith)) ∙ ap z e
beside_near high n z j j₁ on near = cond-true _ _ _ (lt-ltb (j + 1) n (omega arith)) ∙ ap z (sym near)

le_beside : (s : Side) (n : ℕ) (z : ℕ → ℕ) (j x : ℕ) → j < n → x ≤ blank → ((j₁ : ℕ) → j₁ < n → Along s j 1 j₁ → x ≤ z j₁) → x ≤ beside s n z j
le_beside low n z j x on small near =
    cond_both (ltb 0 j) _ blank (λ (k : ℕ). x ≤ k) (λ e. let p = ltb-true 0 j e in near (j - 1) (omega arith) (omega arith)) (λ e. small)
le_beside high n z j x on small near =
    cond_both (ltb (j + 1) n) _ blank (λ (k : ℕ). x ≤ k) (λ e. near (j + 1) (ltb-true (j + 1) n e) refl) (λ e. small)

-- one round gives the greatest number that is at most the own key, the neighbour's stepped, and blank
module _ (s : Side) (n v : ℕ) (z : ℕ → ℕ) (j : ℕ) where
  round_own : line_round s n v z j ≤ z j
  unfolding line_round
  round_own = omega arith

  round_blank : line_round s n v z j ≤ blank
  unfolding line_round
  round_blank = omega arith

  round_near : (j₁ : ℕ) → j₁ < n → Along s j 1 j₁ → line_round s n v z j ≤ stepped (z j₁) v
  unfolding line_round
  round_near j₁ on near = let e = beside_near s n z j j₁ on near in omega arith

  le_round : (x : ℕ) → j < n → x ≤ blank → x ≤ z j → ((j₁ : ℕ) → j₁ < n → Along s j 1 j₁ → x ≤ stepped (z j₁) v) → x ≤ line_round s n v z j
  unfolding line_round
  le_round x on small own near =
      let low : x - v * 1048576 ≤ beside s n z j = le_beside s n z j (x - v * 1048576) on (omega arith) (λ j₁ on₁ near₁. back x (z j₁) (near j₁ on₁ near₁)) in
      omega arith
    where
      back : (x y : ℕ) → x ≤ min (y + v * 1048576) blank → x - v * 1048576 ≤ y
      back x y p = omega arith

-- a round looks at the line alone
pub round_same : (s : Side) (n v : ℕ) (y z : ℕ → ℕ) → ((j : ℕ) → j < n → y j ≡ z j) → (j : ℕ) → j < n → line_round s n v y j ≡ line_round s n v z j
round_same s n v y z same j on = le_antisymm (one y z same) (one z y (λ j on. sym (same j on)))
  where
    one : (y z : ℕ → ℕ) → ((j : ℕ) → j < n → y j ≡ z j) → line_round s n v y j ≤ line_round s n v z j
    one y z same =
        le_round s n v z j _ on (round_blank s n v y j)
        (subst (λ (x : ℕ). line_round s n v y j ≤ x) (same j on) (round_own s n v y j))
        (λ j₁ on₁ near. subst (λ (x : ℕ). line_round s n v y j ≤ stepped x v) (same j₁ on₁) (round_near s n v y j j₁ on₁ near))

last_blank : (s : Side) (n : ℕ) (weight z : ℕ → ℕ) (i j : ℕ) → line_rounds s n weight z (suc i) j ≤ blank
unfolding line_rounds
last_blank s n weight z i j = round_blank s n (weight (suc i)) (line_rounds s n weight z i) j

module _ (s : Side) (n : ℕ) (weight : ℕ → ℕ) (rises : Rising weight) (z : ℕ → ℕ) where
  -- once a round alters nothing, no later one does, as its weight is no less
  pub still_stays : (i j : ℕ) → i ≤ j → j < 1024 → Still s n weight z i → Still s n weight z j
  unfolding line_rounds
  still_stays i j le top still =
      le_ind (λ (k : ℕ). k < 1024 → Still s n weight z k) (λ _. still) (λ k _ rest top. next k top (rest (omega arith))) j le top
    where
      kept : (x y y' v v' : ℕ) → x ≤ min (y + v * 1048576) blank → y' ≡ y → v ≤ v' → x ≤ min (y' + v' * 1048576) blank
      kept x y y' v v' p e q = omega arith

      next : (k : ℕ) → suc k < 1024 → Still s n weight z k → Still s n weight z (suc k)
      next k top still p on =
          le_antisymm (round_own s n (weight (suc (suc k))) (line_rounds s n weight z (suc k)) p)
          (le_round s n (weight (suc (suc k))) (line_rounds s n weight z (suc k)) p _ on
          (round_blank s n (weight (suc k)) (line_rounds s n weight z k) p)
          (le_refl _)
          (λ p₁ on₁ near.
          kept _ _ _ _ _ (round_near s n (weight (suc k)) (line_rounds s n weight z k) p p₁ on₁ near) (still p₁ on₁) (rises (suc k) (suc (suc k)) (omega arith) (omega arith) (omega arith))))

  -- and so the line stays as it is
  still_keeps : (i j : ℕ) → i ≤ j → j ≤ 1024 → Still s n weight z i → (p : ℕ) → p < n → line_rounds s n weight z j p ≡ line_rounds s n weight z i p
  still_keeps i j le top still p on =
      le_ind (λ (k : ℕ). k ≤ 1024 → line_rounds s n weight z k p ≡ line_rounds s n weight z i p) (λ _. refl)
      (λ k below rest top. still_stays i k below (omega arith) still p on ∙ rest (omega arith)) j le top

-- x is at most the key of each pixel so many pixels off on that side, stepped by far
abbrev pub Below : Side → ℕ → (ℕ → ℕ) → (ℕ → ℕ) → (ℕ → Type 0) → ℕ → ℕ → Type 0
Below s n far z P j x = (k j' : ℕ) → j' < n → P k → Along s j k j' → x ≤ stepped (z j') (far k)

module _ (s : Side) (n : ℕ) (fits : n ≤ 1024) (weight far : ℕ → ℕ) (climb : Climb weight far) (z : ℕ → ℕ) where
  -- after i rounds a pixel has no more than what the pixels at most i off let it have
  rounds_under : (i j : ℕ) → ((j : ℕ) → j < n → z j ≤ blank) → j < n → Below s n far z (λ k. k ≤ i) j (line_rounds s n weight z i j)
  unfolding line_rounds
  rounds_under zero j keyed on k j' on' near along =
      let none : k ≡ 0 = omega arith in
      let e : j ≡ j' = along_none s j j' (subst (λ (k : ℕ). Along s j k j') none along) in
      first (z j) (z j') (far k) (ap z e) (keyed j on)
    where
      first : (x y v : ℕ) → x ≡ y → x ≤ blank → x ≤ min (y + v * 1048576) blank
      first x y v e p = omega arith
  rounds_under (suc i) j keyed on zero j' on' near along =
      le_trans (round_own s n (weight (suc i)) (line_rounds s n weight z i) j) (rounds_under i j keyed on zero j' on' (omega arith) along)
  rounds_under (suc i) j keyed on (suc k) j' on' near along =
      ⊎_elim
      (λ (p : k < i). le_trans (round_own s n (weight (suc i)) (line_rounds s n weight z i) j) (rounds_under i j keyed on (suc k) j' on' p along))
      (λ (p : i ≤ k).
      let e : k ≡ i = omega arith in
      let top = along_below s n j (suc k) j' on on' along in
      let part = along_part s n j k j' on on' along in
      let more : far (suc k) ≡ far k + weight (suc i) = subst (λ (i : ℕ). far (suc k) ≡ far k + weight (suc i)) e (climb.more k (omega arith)) in
      step_on _ _ _ _ _ _ (round_near s n (weight (suc i)) (line_rounds s n weight z i) j part.0 part.1 part.2)
      (rounds_under i part.0 keyed part.1 k j' on' (omega arith) part.3) (omega arith))
      (cases_lt k i)

  -- and no less
  le_rounds : (i j x : ℕ) → i ≤ 1024 → j < n → x ≤ blank → Below s n far z (λ k. k ≤ i) j x → x ≤ line_rounds s n weight z i j
  unfolding line_rounds
  le_rounds zero j x top on small below = first x (z j) (far 0) climb.none (below 0 j on (omega arith) (along_self s j))
    where
      first : (x y v : ℕ) → v ≡ 0 → x ≤ min (y + v * 1048576) blank → x ≤ y
      first x y v e p = omega arith
  le_rounds (suc i) j x top on small below =
      le_round s n (weight (suc i)) (line_rounds s n weight z i) j x on small
      (le_rounds i j x (omega arith) on small (λ k j' on' near along. below k j' on' (omega arith) along))
      (λ j₁ on₁ near₁.
      let rest : x - weight (suc i) * 1048576 ≤ line_rounds s n weight z i j₁ =
      le_rounds i j₁ (x - weight (suc i) * 1048576) (omega arith) on₁ (omega arith) (λ k j' on' near along.
      let joined = along_join s j j₁ k j' near₁ along in
      let short = along_below s n j (suc k) j' on on' joined in
      let more = climb.more k (omega arith) in
      let rise = climb.rises (suc k) (suc i) (omega arith) (omega arith) top in
      step_back _ _ _ _ _ (below (suc k) j' on' (omega arith) joined) (omega arith)) in
      le_stepped _ _ _ rest small)

  -- no round is busy once it has seen the whole line
  pub still_soon : (i : ℕ) → ((j : ℕ) → j < n → z j ≤ blank) → i < 1024 → n ≤ suc i → Still s n weight z i
  unfolding line_rounds
  still_soon i keyed top all j on =
      le_antisymm (round_own s n (weight (suc i)) (line_rounds s n weight z i) j)
      (le_rounds (suc i) j _ top on (small _ _ _ (rounds_under i j keyed on 0 j on (omega arith) (along_self s j)))
      (λ k j' on' _ along. let short = along_below s n j k j' on on' along in rounds_under i j keyed on k j' on' (omega arith) along))
    where
      small : (x y v : ℕ) → x ≤ min (y + v * 1048576) blank → x ≤ blank
      small x y v p = omega arith

  -- after a round that alters nothing a pixel has no more than what the whole side lets it have
  still_under : (i j : ℕ) → ((j : ℕ) → j < n → z j ≤ blank) → i < 1024 → Still s n weight z i → j < n → Below s n far z (λ k. Unit {0}) j (line_rounds s n weight z (suc i) j)
  still_under i j keyed top still on k j' on' _ along =
      let short = along_below s n j k j' on on' along in
      subst (λ (x : ℕ). x ≤ stepped (z j') (far k)) (still_keeps s n weight climb.rises z i 1024 (omega arith) (omega arith) still j on ∙ sym (still j on))
      (rounds_under 1024 j keyed on k j' on' (omega arith) along)

-- first the one side and then the other leave the least over the whole line
module _ (n : ℕ) (fits : n ≤ 1024) (weight far : ℕ → ℕ) (climb : Climb weight far) where
  far_rises : (a b : ℕ) → a ≤ b → b ≤ 1023 → far a ≤ far b
  far_rises a b le top =
      le_ind (λ (k : ℕ). k ≤ 1023 → far a ≤ far k) (λ _. le_refl _)
      (λ k _ rest top. let more = climb.more k top in let before = rest (omega arith) in omega arith) b le top

  -- by a pixel m beyond both is no nearer than straight from j to j'
  far_about : (j k m k' j' : ℕ) → m < n → m ≡ j + k → m ≡ j' + k' → far (apart j j') ≤ far k' + far k
  far_about j k m k' j' on p q =
      ⊎_elim
      (λ (l : j < j'). let rise = far_rises (apart j j') k (omega arith) (omega arith) in omega arith)
      (λ (l : j' ≤ j). let rise = far_rises (apart j j') k' (omega arith) (omega arith) in omega arith)
      (cases_lt j j')

  pub both_sides : (z : ℕ → ℕ) (i i' : ℕ) → ((j : ℕ) → j < n → z j ≤ blank) → i < 1024 → i' < 1024 → Still low n weight z i → Still high n weight (line_rounds low n weight z (suc i)) i' →
      (j : ℕ) → j < n → line_rounds high n weight (line_rounds low n weight z (suc i)) (suc i') j ≡ least n (λ j'. stepped (z j') (far (apart j j')))
  both_sides z i i' keyed top top' still still' j on =
      let y : ℕ → ℕ = line_rounds low n weight z (suc i) in
      let offers : ℕ → ℕ = λ j'. stepped (z j') (far (apart j j')) in
      let small : least n offers ≤ blank = least_blank n offers in
      let first : (j : ℕ) → j < n → Below low n far z (λ k. Unit {0}) j (y j) = λ j on. still_under low n fits weight far climb z i j keyed top still on in
      let second : Below high n far y (λ k. Unit {0}) j (line_rounds high n weight y (suc i') j) =
      still_under high n fits weight far climb y i' j (λ j on. last_blank low n weight z i j) top' still' on in
      le_antisymm
      (le_least n offers _ (last_blank high n weight y i' j) (λ j' on'.
      ⊎_elim
      (λ (l : j < j').
      let e : apart j j' ≡ j' - j = omega arith in
      let same = ap far e in
      step_on _ _ _ _ _ _ (second (j' - j) j' on' tt (omega arith)) (first j' on' 0 j' on' tt (omega arith)) (omega (arith, climb.none)))
      (λ (l : j' ≤ j).
      let e : apart j j' ≡ j - j' = omega arith in
      let same = ap far e in
      step_on _ _ _ _ _ _ (second 0 j on tt (omega arith)) (first j on (j - j') j' on' tt (omega arith)) (omega (arith, climb.none)))
      (cases_lt j j')))
      (le_rounds high n fits weight far climb y (suc i') j (least n offers) top' on small (λ k m on₁ _ along.
      le_stepped _ _ _
      (le_rounds low n fits weight far climb z (suc i) m (least n offers - far k * 1048576) top on₁ (less (least n offers) (far k * 1048576) small) (λ k' j' on' _ along'.
      step_back _ _ _ _ _ (least_le n offers j' on') (far_about j k m k' j' on₁ along along')))
      small))
    where
      less : (x k : ℕ) → x ≤ blank → x - k ≤ blank
      less x k p = omega arith
