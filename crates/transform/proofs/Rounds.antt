-- The image after i rounds is the least key over the air at most i rings away, and what follows of the first idle round.
use Rattle.std.proofs.Common.{◌≡◌, ℕ, zero, suc, ◌+◌, ◌-◌, ◌*◌, ◌<◌, ◌≤◌, min, max, Bool, true, false, cond, eqb, ◌⊎◌, sym, refl, ◌∙◌, subst, inl, inr, ⊎_elim, le_trans, le_refl, le_antisymm, arith}
use Rattle.std.proofs.lemmas.Bool.{cases_lt, cases_eq, cond-true, cond_both, eq-eqb, eqb-true}
use Rattle.std.proofs.lemmas.Nat.{mul-add-lt, mul-le}
use Rattle.sheet.specs.Pixels.{place_of, apart, ring}
use Rattle.sheet.specs.Keys.{blank}
use Rattle.sheet.specs.Images.{Image, Same}
use Rattle.metric.specs.Model.{Model}
use Rattle.metric.specs.Laws.{Lawful, step_weight}
use Rattle.transform.specs.Settled.{settled, ringed}
use Rattle.transform.specs.Erosion.{starting, rounds, Idle, FirstIdle}
use Rattle.transform.specs.Parallel.{RoundsLookAtRings, IdleStaysIdle, FirstIdleComes, FirstIdleSettles}
use Rattle.transform.proofs.Least.{eroded_own, eroded_near, le_eroded}
use Rattle.transform.proofs.Offsets.{ring_triangle, ring_zero, ring_self, raises_at, nearer}
use Rattle.transform.proofs.Rings.{Under, ringed_under, le_ringed, ringed_blank, ringed_falls, settled_le_ringed, ringed_all}

place_small : (h w r c : ℕ) → h ≤ 1024 → w ≤ 1024 → r < h → c < w → place_of w r c ≤ blank
place_small h w r c tall wide row column = omega (arith, mul-add-lt r w c h row column, mul-le w h 1024 1024 wide tall)

pub starting_blank : (h w : ℕ) (picture : Image) (r c : ℕ) → h ≤ 1024 → w ≤ 1024 → r < h → c < w → starting w picture r c ≤ blank
unfolding starting
starting_blank h w picture r c tall wide row column =
    cond_both (eqb (picture r c) 0) _ blank (λ (x : ℕ). x ≤ blank) (λ e. place_small h w r c tall wide row column) (λ e. omega arith)

module _ (m : Model) (h w : ℕ) (picture : Image) where
  rounds_fall : (i r c : ℕ) → rounds m h w picture (suc i) r c ≤ rounds m h w picture i r c
  unfolding rounds
  rounds_fall i r c = eroded_own h w (m.straight (suc i)) (m.diagonal (suc i)) (rounds m h w picture i) r c

  module _ (law : Lawful m) (tall : h ≤ 1024) (wide : w ≤ 1024) where
    rounds_blank : (i r c : ℕ) → r < h → c < w → rounds m h w picture i r c ≤ blank
    unfolding rounds
    rounds_blank zero r c row column = starting_blank h w picture r c tall wide row column
    rounds_blank (suc i) r c row column = le_trans (rounds_fall i r c) (rounds_blank i r c row column)

    -- no air so near has a lesser key: by induction along the ways of the fourth law
    below : (i r c : ℕ) → i ≤ 1024 → r < h → c < w → Under m h w picture (λ a b. ring r c a b ≤ i) r c (rounds m h w picture i r c)
    unfolding rounds starting
    below zero r c _ row column a b row' column' air inside =
        let same = ring_zero r c a b inside in
        let here : picture r c ≡ 0 = (λ k. picture (same.0 k) (same.1 k)) ∙ air in
        let place : place_of w r c ≡ place_of w a b = λ k. place_of w (same.0 k) (same.1 k) in
        first _ _ _ (cond-true _ _ _ (eq-eqb _ _ here) ∙ place)
      where
        first : (s p d : ℕ) → s ≡ p → s ≤ d * 1048576 + p
        first s p d e = omega arith
    below (suc i) r c top row column a b row' column' air inside =
        ⊎_elim
        (λ (p : ring r c a b < suc i). le_trans (rounds_fall i r c) (below i r c (omega arith) row column a b row' column' air (omega arith)))
        (λ (p : suc i ≤ ring r c a b).
        let N = nearer m law i r c a b (omega arith) (omega arith) (omega arith) (omega arith) (omega arith) in
        let row₁ : N.row < h = omega (arith, N.row_between) in
        let column₁ : N.column < w = omega (arith, N.column_between) in
        let before = below i N.row N.column (omega arith) row₁ column₁ a b row' column' air (omega (arith, N.inner)) in
        let offered = eroded_near h w (m.straight (suc i)) (m.diagonal (suc i)) (rounds m h w picture i) r c N.row N.column row₁ column₁ N.near in
        next (rounds m h w picture (suc i) r c) (rounds m h w picture i N.row N.column) (m.far (apart c b) (apart r a)) (m.far (apart N.column b) (apart N.row a)) (step_weight m (suc i) (apart c N.column) (apart r N.row)) (place_of w a b) offered before N.exact)
        (cases_lt (ring r c a b) (suc i))
      where
        next : (R R₁ F F₁ W p : ℕ) → R ≤ min (R₁ + W * 1048576) blank → R₁ ≤ F₁ * 1048576 + p → F ≡ F₁ + W → R ≤ F * 1048576 + p
        next R R₁ F F₁ W p u v e = omega arith

    -- no key is less than that of some air so near: a step raises far by no more than the third law lets it
    above : (i r c : ℕ) → i ≤ 1024 → r < h → c < w → ringed m h w picture i r c ≤ rounds m h w picture i r c
    unfolding rounds starting
    above zero r c _ row column =
        cond_both (eqb (picture r c) 0) _ blank (λ (x : ℕ). ringed m h w picture 0 r c ≤ x)
        (λ e. first _ _ _ (ringed_under m h w picture 0 r c r c row column (eqb-true _ _ e) (ring_self r c)) (none c r))
        (λ e. ringed_blank m h w picture 0 r c)
      where
        none : (x y : ℕ) → m.far (apart x x) (apart y y) ≡ 0
        none x y = let p : apart x x ≡ 0 = omega arith in let q : apart y y ≡ 0 = omega arith in (λ k. m.far (p k) (q k)) ∙ law.far_zero

        first : (n F p : ℕ) → n ≤ F * 1048576 + p → F ≡ 0 → n ≤ p
        first n F p u e = omega arith
    above (suc i) r c top row column =
        le_eroded h w (m.straight (suc i)) (m.diagonal (suc i)) (rounds m h w picture i) r c _
        (ringed_blank m h w picture (suc i) r c)
        (le_trans (ringed_falls m h w picture i (suc i) r c (omega arith)) (above i r c (omega arith) row column))
        (λ r₁ c₁ row₁ column₁ near.
        let W : ℕ = step_weight m (suc i) (apart c c₁) (apart r r₁) in
        let n : ℕ = ringed m h w picture (suc i) r c in
        let rest : n - W * 1048576 ≤ ringed m h w picture i r₁ c₁ =
        le_ringed m h w picture i r₁ c₁ (n - W * 1048576) (less n (W * 1048576) (ringed_blank m h w picture (suc i) r c)) (λ a b row' column' air inside.
        back _ _ _ _ _
        (ringed_under m h w picture (suc i) r c a b row' column' air (wider _ _ _ (ring_triangle r c r₁ c₁ a b) near inside))
        (raises_at m law i r c r₁ c₁ a b (omega arith) (omega arith) (omega arith) (omega arith) (omega arith) near inside)) in
        next n W _ _ rest (above i r₁ c₁ (omega arith) row₁ column₁) (ringed_blank m h w picture (suc i) r c))
      where
        less : (n k : ℕ) → n ≤ blank → n - k ≤ blank
        less n k u = omega arith

        wider : (x y z : ℕ) → x ≤ y + z → y ≡ 1 → z ≤ i → x ≤ suc i
        wider x y z p q u = omega arith

        back : (n W F F₁ p : ℕ) → n ≤ F * 1048576 + p → F ≤ F₁ + W → n - W * 1048576 ≤ F₁ * 1048576 + p
        back n W F F₁ p u v = omega arith

        next : (n W R G : ℕ) → n - W * 1048576 ≤ G → G ≤ R → n ≤ blank → n ≤ min (R + W * 1048576) blank
        next n W R G u v k = omega arith

    pub rounds_ringed : (i : ℕ) → i ≤ 1024 → Same h w (rounds m h w picture i) (ringed m h w picture i)
    rounds_ringed i top r c row column =
        le_antisymm (le_ringed m h w picture i r c _ (rounds_blank i r c row column) (below i r c top row column)) (above i r c top row column)

    weights_rise : (i j x y : ℕ) → 1 ≤ i → i ≤ j → j ≤ 1024 → step_weight m i x y ≤ step_weight m j x y
    weights_rise i zero x y p q top = absurd (omega arith)
    weights_rise i (suc j) x y p q top =
        ⊎_elim
        (λ (u : i < suc j). le_trans (weights_rise i j x y p (omega arith) (omega arith)) (one u (eqb (x + y) 2)))
        (λ (u : suc j ≤ i). let e : i ≡ suc j = omega arith in subst (λ (k : ℕ). step_weight m i x y ≤ step_weight m k x y) e (le_refl _))
        (cases_lt i (suc j))
      where
        one : i < suc j → (b : Bool) → cond b (m.diagonal j) (m.straight j) ≤ cond b (m.diagonal (suc j)) (m.straight (suc j))
        one u true = (law.weights_rise j (omega arith) (omega arith)).1
        one u false = (law.weights_rise j (omega arith) (omega arith)).0

    -- after an idle round no later round lowers a key: its weights are no less
    holds_still : (i : ℕ) → i < 1024 → Idle h w (rounds m h w picture) i → (j r c : ℕ) → i ≤ j → j ≤ 1024 → r < h → c < w → rounds m h w picture i r c ≤ rounds m h w picture j r c
    unfolding rounds
    holds_still i top idle zero r c le _ row column =
        let e : i ≡ zero = omega arith in
        subst (λ (k : ℕ). rounds m h w picture i r c ≤ rounds m h w picture k r c) e (le_refl _)
    holds_still i top idle (suc j) r c le last row column =
        ⊎_elim
        (λ (p : i < suc j).
        le_eroded h w (m.straight (suc j)) (m.diagonal (suc j)) (rounds m h w picture j) r c _
        (rounds_blank i r c row column)
        (holds_still i top idle j r c (omega arith) (omega arith) row column)
        (λ r₁ c₁ row₁ column₁ near.
        next _ _ _ _ _ _ (idle r c row column)
        (eroded_near h w (m.straight (suc i)) (m.diagonal (suc i)) (rounds m h w picture i) r c r₁ c₁ row₁ column₁ near)
        (holds_still i top idle j r₁ c₁ (omega arith) (omega arith) row₁ column₁)
        (weights_rise (suc i) (suc j) (apart c c₁) (apart r r₁) (omega arith) (omega arith) last)))
        (λ (p : suc j ≤ i).
        let e : i ≡ suc j = omega arith in
        subst (λ (k : ℕ). rounds m h w picture i r c ≤ rounds m h w picture k r c) e (le_refl _))
        (cases_lt i (suc j))
      where
        next : (E n R W V R' : ℕ) → E ≡ n → E ≤ min (R + W * 1048576) blank → R ≤ R' → W ≤ V → n ≤ min (R' + V * 1048576) blank
        next E n R W V R' e u v k = omega arith

    fall_from : (i j r c : ℕ) → i ≤ j → rounds m h w picture j r c ≤ rounds m h w picture i r c
    fall_from i zero r c le = let e : zero ≡ i = omega arith in subst (λ (k : ℕ). rounds m h w picture zero r c ≤ rounds m h w picture k r c) e (le_refl _)
    fall_from i (suc j) r c le =
        ⊎_elim
        (λ (p : i < suc j). le_trans (rounds_fall j r c) (fall_from i j r c (omega arith)))
        (λ (p : suc j ≤ i). let e : suc j ≡ i = omega arith in subst (λ (k : ℕ). rounds m h w picture (suc j) r c ≤ rounds m h w picture k r c) e (le_refl _))
        (cases_lt i (suc j))

    stays_idle : (i j : ℕ) → i ≤ j → j < 1024 → Idle h w (rounds m h w picture) i → Idle h w (rounds m h w picture) j
    stays_idle i j le top idle r c row column =
        le_antisymm (rounds_fall j r c)
        (le_trans (fall_from i j r c le) (holds_still i (omega arith) idle (suc j) r c (omega arith) (omega arith) row column))

    idle_settled : (i : ℕ) → i < 1024 → Idle h w (rounds m h w picture) i → Same h w (rounds m h w picture i) (settled m h w picture)
    idle_settled i top idle r c row column =
        let whole : ringed m h w picture 1024 r c ≡ settled m h w picture r c = ringed_all m h w picture 1024 r c (omega arith) row column in
        let low = holds_still i top idle 1024 r c (omega arith) (omega arith) row column in
        let is : rounds m h w picture 1024 r c ≡ ringed m h w picture 1024 r c = rounds_ringed 1024 (omega arith) r c row column in
        let high = settled_le_ringed m h w picture i r c in
        let mid = above i r c (omega arith) row column in
        omega arith

    -- the round after the rings have taken in the whole sheet alters nothing
    pub idle_soon : (i : ℕ) → i < 1024 → max w h ≤ suc i → Idle h w (rounds m h w picture) i
    idle_soon i top all r c row column =
        rounds_ringed (suc i) top r c row column ∙ ringed_all m h w picture (suc i) r c (omega arith) row column ∙ sym (ringed_all m h w picture i r c all row column) ∙ sym (rounds_ringed i (omega arith) r c row column)

    -- as long as no round was idle, fewer rounds were made than the longer side has pixels
    pub busy_soon : (i : ℕ) → 1 ≤ w → ((j : ℕ) → j < i → Idle h w (rounds m h w picture) j → ⊥) → i < max w h
    busy_soon i some busy =
        ⊎_elim
        (λ (p : i < max w h). p)
        (λ (p : max w h ≤ i). absurd (last (max w h) refl p))
        (cases_lt i (max w h))
      where
        last : (n : ℕ) → n ≡ max w h → n ≤ i → ⊥
        last zero e p = omega arith
        last (suc n) e p = busy n p (idle_soon n (omega arith) (omega arith))

    pub first_idle_settles : (n : ℕ) → 1 ≤ w → FirstIdle h w (rounds m h w picture) n → Same h w (rounds m h w picture n) (settled m h w picture) × (n ≤ max w h)
    first_idle_settles n some first =
        let i : ℕ = first.before in
        let soon = busy_soon i some first.busy in
        let top : i < 1024 = omega arith in (
          (λ r c row column.
              subst (λ (k : ℕ). rounds m h w picture k r c ≡ settled m h w picture r c) (sym first.next)
              (first.idle r c row column ∙ idle_settled i top first.idle r c row column)),
          omega (arith, first.next),
        )

-- what holds below n is decided where it is decided at each number
all_below : (P : ℕ → Type 0) → ((k : ℕ) → P k ⊎ (P k → ⊥)) → (n : ℕ) → ((k : ℕ) → k < n → P k) ⊎ (((k : ℕ) → k < n → P k) → ⊥)
all_below P dec zero = inl (λ k h. absurd (omega arith))
all_below P dec (suc n) =
    ⊎_elim
    (λ (rest : (k : ℕ) → k < n → P k).
    ⊎_elim
    (λ (here : P n). inl (λ k h. ⊎_elim (λ (p : k < n). rest k p) (λ (p : n ≤ k). let e : n ≡ k = omega arith in subst P e here) (cases_lt k n)))
    (λ (not : P n → ⊥). inr (λ all. not (all n (omega arith))))
    (dec n))
    (λ (not : ((k : ℕ) → k < n → P k) → ⊥). inr (λ all. not (λ k h. all k (omega arith))))
    (all_below P dec n)

same_or_not : (h w : ℕ) (f g : Image) → Same h w f g ⊎ (Same h w f g → ⊥)
same_or_not h w f g =
    ⊎_elim
    (λ (all : (r : ℕ) → r < h → (c : ℕ) → c < w → f r c ≡ g r c). inl (λ r c row column. all r row c column))
    (λ (not : ((r : ℕ) → r < h → (c : ℕ) → c < w → f r c ≡ g r c) → ⊥). inr (λ same. not (λ r row c column. same r c row column)))
    (all_below (λ r. (c : ℕ) → c < w → f r c ≡ g r c) (λ r. all_below (λ c. f r c ≡ g r c) (λ c. cases_eq (f r c) (g r c)) w) h)

-- none of the first i rounds is idle, or there is a first idle one
look : (m : Model) (h w : ℕ) (picture : Image) (i : ℕ) → ((j : ℕ) → j < i → Idle h w (rounds m h w picture) j → ⊥) ⊎ ((n : ℕ) × FirstIdle h w (rounds m h w picture) n)
look m h w picture zero = inl (λ j p. absurd (omega arith))
look m h w picture (suc i) =
    ⊎_elim
    (λ (busy : (j : ℕ) → j < i → Idle h w (rounds m h w picture) j → ⊥).
    ⊎_elim
    (λ (idle : Idle h w (rounds m h w picture) i). inr (suc i, record { before = i; next = refl; idle = idle; busy = busy }))
    (λ (not : Idle h w (rounds m h w picture) i → ⊥).
    inl (λ j p. ⊎_elim (λ (l : j < i). busy j l) (λ (l : i ≤ j). let e : i ≡ j = omega arith in subst (λ (k : ℕ). Idle h w (rounds m h w picture) k → ⊥) e not) (cases_lt j i)))
    (same_or_not h w (rounds m h w picture (suc i)) (rounds m h w picture i)))
    (λ (found : (n : ℕ) × FirstIdle h w (rounds m h w picture) n). inr found)
    (look m h w picture i)

pub look_at_rings : RoundsLookAtRings
look_at_rings m h w picture i law tall wide top = rounds_ringed m h w picture law tall wide i top

pub idle_stays : IdleStaysIdle
idle_stays m h w picture i j law tall wide le top idle = stays_idle m h w picture law tall wide i j le top idle

pub first_comes : FirstIdleComes
first_comes m h w picture law _ tall some wide =
    ⊎_elim
    (λ (busy : (j : ℕ) → j < max w h → Idle h w (rounds m h w picture) j → ⊥). absurd (irreflexive (max w h) (busy_soon m h w picture law tall wide (max w h) some busy)))
    (λ (found : (n : ℕ) × FirstIdle h w (rounds m h w picture) n). found)
    (look m h w picture (max w h))
  where
    irreflexive : (n : ℕ) → n < n → ⊥
    irreflexive n p = omega arith

pub first_settles : FirstIdleSettles
first_settles m h w picture n law _ tall some wide first = first_idle_settles m h w picture law tall wide n some first
