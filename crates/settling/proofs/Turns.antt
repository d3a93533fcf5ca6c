-- One turn of the free order: a place is taken and offers its key to its neighbours.
use Rattle.std.proofs.Common.{◌≡◌, ℕ, zero, suc, ◌+◌, ◌-◌, ◌*◌, ◌<◌, ◌≤◌, min, Bool, true, false, cond, not, ◌||◌, ltb, List, length, get_or, drop, set, sum_by, sum, sym, refl, ap, ◌∙◌, ⊎_elim, arith, length-set}
use Rattle.std.proofs.lemmas.List.{get_or-set_same, get_or-set_other, get_or-drop}
use Rattle.std.proofs.lemmas.List.Sums.{sum_by-set}
use Rattle.std.proofs.lemmas.Nat.{mul-le}
use Rattle.std.proofs.lemmas.Bool.{cases_eq, cases_lt, true≢false, false≢true, and_parts, and_from, not-true}
use Rattle.std.proofs.lemmas.Bool.Decides.{nat_tests}
use Rattle.sheet.specs.declared.size.Size.{Size}
use Rattle.sheet.specs.Pixels.{place_of, apart, ring, weight_of}
use Rattle.sheet.specs.Keys.{blank, stepped}
use Rattle.sheet.specs.Images.{Image, image_of}
use Rattle.front.specs.Waiting.{many, Takes}
use Rattle.transform.specs.Free.{spread, Stable, Below}
use Rattle.erosion.specs.Memory.{Shows, past}
use Rattle.erosion.proofs.Rows.{same_row, same_column}
use Rattle.settling.specs.Within.{Relaxed, BetweenTakes, at_rest, resting}
use Rattle.settling.proofs.Neighbours.{spread_far, spread_near}

-- a flag that is down was down before, and nothing was lowered
flag_down : (b b' : Bool) (k k' : ℕ) → b' ≡ (b || ltb k' k) → b' ≡ false → (b ≡ false) × (k ≤ k')
flag_down true b' k k' e f = absurd (true≢false (sym e ∙ f))
flag_down false b' k k' e f = (refl, grind (arith, nat_tests))

-- counts of places at rest
resting_most : (ks : List ℕ) (ws : List Bool) (n : ℕ) → resting ks ws n ≤ n
resting_most ks ws zero = omega arith
resting_most ks ws (suc n) =
    let h = resting_most ks ws n in
    elim (at_rest ks ws n) as (λ b. cond {A = ℕ} b 1 0 + resting ks ws n ≤ suc n) [ true ↦ omega arith | false ↦ omega arith ]

one : (a b : Bool) → (a ≡ true → b ≡ true) → cond {A = ℕ} a 1 0 ≤ cond {A = ℕ} b 1 0
one true true h = omega arith
one true false h = absurd (false≢true (h refl))
one false true h = omega arith
one false false h = omega arith

pub resting_mono : (ks ks' : List ℕ) (ws ws' : List Bool) (n : ℕ) → ((k : ℕ) → k < n → at_rest ks ws k ≡ true → at_rest ks' ws' k ≡ true) → resting ks ws n ≤ resting ks' ws' n
resting_mono ks ks' ws ws' zero h = omega arith
resting_mono ks ks' ws ws' (suc n) h =
    let i = resting_mono ks ks' ws ws' n (λ k l. h k (omega arith)) in
    let o = one (at_rest ks ws n) (at_rest ks' ws' n) (h n (omega arith)) in
    omega arith

-- all but one place
resting_one : (ks ks' : List ℕ) (ws ws' : List Bool) (p n : ℕ) → ((k : ℕ) → k < n → (k ≡ p → ⊥) → at_rest ks ws k ≡ true → at_rest ks' ws' k ≡ true) → resting ks ws n ≤ resting ks' ws' n + 1
resting_one ks ks' ws ws' p zero h = omega arith
resting_one ks ks' ws ws' p (suc n) h =
    ⊎_elim
    (λ (e : n ≡ p).
    let i = resting_mono ks ks' ws ws' n (λ k l. h k (omega arith) (omega arith)) in
    let o : cond {A = ℕ} (at_rest ks ws n) 1 0 ≤ 1 = elim (at_rest ks ws n) as (λ b. cond {A = ℕ} b 1 0 ≤ 1) [ true ↦ omega arith | false ↦ omega arith ] in
    omega arith)
    (λ (ne : n ≡ p → ⊥).
    let i = resting_one ks ks' ws ws' p n (λ k l. h k (omega arith)) in
    let o = one (at_rest ks ws n) (at_rest ks' ws' n) (h n (omega arith) ne) in
    omega arith)
    (cases_eq n p)

many_take : (ws : List Bool) (p : ℕ) → p < length ws → get_or ws p false ≡ true → many (set ws p false) + 1 ≡ many ws
many_take ws p l t =
    let e : sum_by (λ b. cond {A = ℕ} b 1 0) (set ws p false) + cond {A = ℕ} (get_or ws p false) 1 0 ≡ sum_by (λ b. cond {A = ℕ} b 1 0) ws + 0 = sum_by-set (λ b. cond {A = ℕ} b 1 0) ws p false false l in
    let f : cond {A = ℕ} (get_or ws p false) 1 0 ≡ 1 = ap (λ b. cond {A = ℕ} b 1 0) t in
    omega arith

-- what a pixel offers, seen from the neighbour
turned_ring : (r c r' c' : ℕ) → ring r c r' c' ≡ ring r' c' r c
unfolding ring
turned_ring r c r' c' = omega arith

turned_weight : (s d r c r' c' : ℕ) → weight_of s d (apart c c') (apart r r') ≡ weight_of s d (apart c' c) (apart r' r)
turned_weight s d r c r' c' =
    let x : apart c c' ≡ apart c' c = omega arith in
    let y : apart r r' ≡ apart r' r = omega arith in
    λ k. weight_of s d (x k) (y k)

module _ (s d : ℕ) (f : Image) (row column r c : ℕ) where
  -- a neighbour gets no more than what it is offered
  spread_offer : ring r c row column ≡ 1 → spread s d f row column r c ≤ stepped (f row column) (weight_of s d (apart c column) (apart r row))
  spread_offer near = least _ _ _ _ _ (spread_near s d f row column r c (turned_ring row column r c ∙ near)) (turned_weight s d row column r c)
    where
      least : (n a key v v' : ℕ) → n ≡ min a (stepped key v) → v ≡ v' → n ≤ stepped key v'
      least n a key v v' e g = omega arith

  -- and no less than something that is at most its own key and what it is offered
  spread_least : (n : ℕ) → n ≤ f r c → (ring r c row column ≡ 1 → n ≤ stepped (f row column) (weight_of s d (apart c column) (apart r row))) → n ≤ spread s d f row column r c
  spread_least n own offered =
      ⊎_elim
      (λ (near : ring row column r c ≡ 1).
      least _ _ _ _ _ _ (spread_near s d f row column r c near) own (offered (turned_ring r c row column ∙ near)) (turned_weight s d row column r c))
      (λ (far : ring row column r c ≡ 1 → ⊥). same _ _ _ (spread_far s d f row column r c far) own)
      (cases_eq (ring row column r c) 1)
    where
      least : (n m a key v v' : ℕ) → m ≡ min a (stepped key v) → n ≤ a → n ≤ stepped key v' → v ≡ v' → n ≤ m
      least n m a key v v' e p q g = omega arith

      same : (n m a : ℕ) → m ≡ a → n ≤ a → n ≤ m
      same n m a e p = omega arith

stepped_rise : (n a b v : ℕ) → n ≤ stepped a v → a ≤ b → n ≤ stepped b v
stepped_rise n a b v p q = omega arith

-- the image of the keys does not fall below a stable one that it is above
pub spread_above : (h w s d : ℕ) (f goal : Image) (row column : ℕ) → row < h → column < w → Stable h w s d goal → Below h w goal f → Below h w goal (spread s d f row column)
spread_above h w s d f goal row column p q stable below r c on_Row on_column =
    spread_least s d f row column r c (goal r c) (below r c on_Row on_column)
    (λ near. stepped_rise _ _ _ _ (stable r c row column on_Row on_column p q near) (below row column p q))

-- a place that is taken is on the sheet
pub taken_inside : (size : Size) (s d : ℕ) (ks : List ℕ) (ws ws₁ : List Bool) (t t₁ k : ℕ) → BetweenTakes size s d ks ws t → Takes ws t k ws₁ t₁ → k < size.width * size.height
taken_inside size s d ks ws ws₁ t t₁ k before takes =
    ⊎_elim
    (λ (l : k < size.width * size.height). l)
    (λ (l : size.width * size.height ≤ k). absurd (true≢false (sym takes.waited ∙ before.inside k l)))
    (cases_lt k (size.width * size.height))

module _ (size : Size) (s d : ℕ) (ks ks' : List ℕ) (ws ws₁ ws' : List Bool) (t t₁ p : ℕ) where
  module _ (before : BetweenTakes size s d ks ws t) (takes : Takes ws t p ws₁ t₁) (relaxed : Relaxed ks ks' ws₁ ws') where
    -- the sum of the keys and the number of waiting places falls
    pub turn_less : sum ks' + many ws' < sum ks + many ws
    turn_less =
        let m = many_take ws p takes.within takes.waited in
        let e : many ws₁ ≡ many (set ws p false) = ap many takes.waits_no_more in
        omega (arith, relaxed.less)

    -- a place that does not wait afterwards, and was not the one taken, did not wait before; and it kept its key
    down : (k : ℕ) → get_or ws' k false ≡ false → ((k ≡ p → ⊥) → get_or ws k false ≡ false) × (get_or ks' k 0 ≡ get_or ks k 0)
    down k e =
        let both = flag_down _ _ _ _ (relaxed.put k) e in (
          (λ ne. sym (get_or-set_other ws p k false false ne) ∙ ap (λ (v : List Bool). get_or v k false) (sym takes.waits_no_more) ∙ both.0),
          omega (arith, both.1, relaxed.falls k),
        )

    module _ (t' row column : ℕ) (at : place_of size.width row column ≡ p) (same_tally : t' ≡ t₁) (on : column < size.width) (image : Shows size ks' (spread s d (image_of size.width ks) row column)) (rest : past size ks' ≡ past size ks) where
      pub turn_between : BetweenTakes size s d ks' ws' t'
      turn_between = record {
        room = omega (arith, before.room, relaxed.same_size, ap length takes.waits_no_more, length-set ws p false);
        inside = λ k past-sheet.
            relaxed.put k
            ∙ flag_none _ _ _ (ap (λ (v : List Bool). get_or v k false) takes.waits_no_more ∙ idle_set k (before.inside k past-sheet)) (past_same _ _ _ k rest past-sheet);
        quiet = λ r c r' c' on-r on-c on-r' on-c' near idle.
            let both = down (place_of size.width r' c') idle in
            ⊎_elim
            (λ (e : place_of size.width r' c' ≡ p).
            let e₁ : r' ≡ row = same_row _ _ _ _ _ on-c' on (e ∙ sym at) in
            let e₂ : c' ≡ column = same_column _ _ _ _ _ on-c' on (e ∙ sym at) in
            let offer : spread s d f row column r c ≤ stepped (f r' c') (weight_of s d (apart c c') (apart r r')) =
            coe 0 1 (k. spread s d f row column r c ≤ stepped (f (sym e₁ k) (sym e₂ k)) (weight_of s d (apart c (sym e₂ k)) (apart r (sym e₁ k))))
            (spread_offer s d f row column r c (coe 0 1 (k. ring r c (e₁ k) (e₂ k) ≡ 1) near)) in
            less _ _ _ _ _ (image r c on-r on-c) offer both.1)
            (λ (ne : place_of size.width r' c' ≡ p → ⊥).
            kept _ _ _ _ _ (relaxed.falls (place_of size.width r c)) (before.quiet r c r' c' on-r on-c on-r' on-c' near (both.0 ne)) both.1)
            (cases_eq (place_of size.width r' c') p);
        taken =
            let more = resting_one ks' ks ws' ws p n (λ k _. still k) in
            omega (arith, more, resting_most ks' ws' n, mul-le size.width size.height 1024 1024 size.wide size.tall, before.taken, takes.raised_tally, same_tally);
      }
        where
          n : ℕ
          n = size.width * size.height

          f : Image
          f = image_of size.width ks

          flag_none : (b : Bool) (k k' : ℕ) → b ≡ false → k' ≡ k → (b || ltb k' k) ≡ false
          flag_none b k k' e g = grind (arith, nat_tests)

          idle_set : (k : ℕ) → get_or ws k false ≡ false → get_or (set ws p false) k false ≡ false
          idle_set k e =
              ⊎_elim
              (λ (g : k ≡ p). ap (λ (i : ℕ). get_or (set ws p false) i false) g ∙ get_or-set_same ws p false false takes.within)
              (λ (ne : k ≡ p → ⊥). get_or-set_other ws p k false false ne ∙ e)
              (cases_eq k p)

          past_same : (n : ℕ) (xs ys : List ℕ) (k : ℕ) → drop n xs ≡ drop n ys → n ≤ k → get_or xs k 0 ≡ get_or ys k 0
          past_same n xs ys k e l =
              let at : n + (k - n) ≡ k = omega arith in
              ap (λ (i : ℕ). get_or xs i 0) (sym at) ∙ sym (get_or-drop n xs (k - n) 0) ∙ ap (λ (v : List ℕ). get_or v (k - n) 0) e ∙ get_or-drop n ys (k - n) 0 ∙ ap (λ (i : ℕ). get_or ys i 0) at

          less : (m m' a a' v : ℕ) → m' ≡ m → m ≤ stepped a v → a' ≡ a → m' ≤ stepped a' v
          less m m' a a' v e l g = omega arith

          kept : (m m' a a' v : ℕ) → m' ≤ m → m ≤ stepped a v → a' ≡ a → m' ≤ stepped a' v
          kept m m' a a' v u l g = omega arith

          still : (k : ℕ) → (k ≡ p → ⊥) → at_rest ks' ws' k ≡ true → at_rest ks ws k ≡ true
          still k ne e =
              let parts = and_parts (ltb (get_or ks' k 0) blank) (not (get_or ws' k false)) e in
              let both = down k (not-true (get_or ws' k false) parts.1) in
              and_from (ltb (get_or ks k 0) blank) (not (get_or ws k false)) (ap (λ (x : ℕ). ltb x blank) (sym both.1) ∙ parts.0) (ap not (both.0 ne))
