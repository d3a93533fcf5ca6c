-- Lemmas on a ring of places and their flags.
use Rattle.std.proofs.Common.{◌≡◌, ℕ, ◌+◌, ◌*◌, ◌<◌, ◌≤◌, true, false, cond, ◌≢◌, List, [], ◌∷◌, ◌++◌, map, length, get_or, set, sum_by, count_by, sym, refl, ap, ◌∙◌, ⊎_elim, add_comm, zero-add, add-one, arith, length-set, below_more}
use Rattle.std.specs.List.{range_with_len}
use Rattle.std.proofs.lemmas.List.{same_lists, get_or_past, get_or-set_same, get_or-set_other}
use Rattle.std.proofs.lemmas.List.FromFn.{map-range_with_len_more, length-map-range_with_len, get_or-map-range_with_len}
use Rattle.std.proofs.lemmas.List.Sums.{sum_by-set, count_by-le-length}
use Rattle.std.proofs.lemmas.Bool.{cases_lt, cases_eq, cases_Bool, true≢false}
use Rattle.std.proofs.lemmas.Bool.Decides.{nat_tests}
use Rattle.front.specs.Memory.{is_set, turn, slot, slots, Live, Apart}
use Rattle.front.proofs.Marked.{is_set_no}

pub turn_below : (size i : ℕ) → i < 2 * size → turn size i < size
turn_below size i h = grind (arith, nat_tests)

pub turn_apart : (size head j k : ℕ) → head < size → j < k → k < size → turn size (head + j) ≡ turn size (head + k) → ⊥
turn_apart size head j k h l m e = grind (arith, nat_tests)

pub turn_next : (size head k : ℕ) → head < size → k < size → turn size (turn size (head + 1) + k) ≡ turn size (head + (k + 1))
turn_next size head k h l = grind (arith, nat_tests)

pub turn_here : (size head : ℕ) → head < size → turn size (head + 0) ≡ head
turn_here size head h = grind (arith, nat_tests)

-- one more at the end of the ring

pub slot_other : (ring : List ℕ) (head n at p k : ℕ) → at ≡ turn (length ring) (head + n) → head < length ring → n < length ring → k < n → slot (set ring at p) head k ≡ slot ring head k
slot_other ring head n at p k e h room l =
    let ne : turn (length ring) (head + k) ≢ at = λ q. turn_apart (length ring) head k n h l room (q ∙ e) in
    ap (λ m. get_or (set ring at p) (turn m (head + k)) 0) (length-set ring at p) ∙ get_or-set_other ring at (turn (length ring) (head + k)) p 0 ne

pub slot_same : (ring : List ℕ) (head n at p : ℕ) → at ≡ turn (length ring) (head + n) → head < length ring → n < length ring → slot (set ring at p) head n ≡ p
slot_same ring head n at p e h room =
    let b : turn (length ring) (head + n) < length ring = turn_below (length ring) (head + n) (omega arith) in
    ap (λ m. get_or (set ring at p) (turn m (head + n)) 0) (length-set ring at p)
    ∙ (ap (λ i. get_or (set ring i p) (turn (length ring) (head + n)) 0) e ∙ get_or-set_same ring (turn (length ring) (head + n)) p 0 b)

pub flag_kept : (flags : List ℕ) (p q : ℕ) → p < length flags → is_set (get_or flags q 0) ≡ true → is_set (get_or (set flags p 1) q 0) ≡ true
flag_kept flags p q l h =
    ⊎_elim (λ (e : q ≡ p). ap (λ i. is_set (get_or (set flags p 1) i 0)) e ∙ ap is_set (get_or-set_same flags p 1 0 l))
    (λ (ne : q ≡ p → ⊥). ap is_set (get_or-set_other flags p q 1 0 ne) ∙ h) (cases_eq q p)

pub live_ring : (ring flags : List ℕ) (head n at p : ℕ) → at ≡ turn (length ring) (head + n) → head < length ring → n < length ring → Live ring flags head n → Live (set ring at p) flags head n
live_ring ring flags head n at p e h room live k l =
    ap (λ q. is_set (get_or flags q 0)) (slot_other ring head n at p k e h room l) ∙ live k l

pub apart_ring : (ring : List ℕ) (head n at p : ℕ) → at ≡ turn (length ring) (head + n) → head < length ring → n < length ring → Apart ring head n → Apart (set ring at p) head n
apart_ring ring head n at p e h room apart j k l m q =
    apart j k l m (sym (slot_other ring head n at p j e h room (omega arith)) ∙ (q ∙ slot_other ring head n at p k e h room m))

pub live_put : (ring flags : List ℕ) (head n at p : ℕ) → at ≡ turn (length ring) (head + n) → head < length ring → n < length ring → p < length flags → Live ring flags head n → Live (set ring at p) (set flags p 1) head (n + 1)
live_put ring flags head n at p e h room pl live =
    below_more (λ k. is_set (get_or (set flags p 1) (slot (set ring at p) head k) 0) ≡ true) n
    (λ k l. flag_kept flags p _ pl (live_ring ring flags head n at p e h room live k l))
    (ap (λ q. is_set (get_or (set flags p 1) q 0)) (slot_same ring head n at p e h room) ∙ ap is_set (get_or-set_same flags p 1 0 pl))

-- a place that does not wait is not in the ring
pub new_place : (ring flags : List ℕ) (head n p k : ℕ) → get_or flags p 0 ≡ 0 → Live ring flags head n → k < n → slot ring head k ≡ p → ⊥
new_place ring flags head n p k z live l q =
    true≢false (sym (live k l) ∙ (ap (λ i. is_set (get_or flags i 0)) q ∙ is_set_no _ z))

pub apart_put : (ring flags : List ℕ) (head n at p : ℕ) → at ≡ turn (length ring) (head + n) → head < length ring → n < length ring → get_or flags p 0 ≡ 0 → Live ring flags head n → Apart ring head n → Apart (set ring at p) head (n + 1)
apart_put ring flags head n at p e h room z live apart j k l m q =
    ⊎_elim (λ (b : k < n). apart_ring ring head n at p e h room apart j k l b q)
    (λ (b : n ≤ k). let i : k ≡ n = omega arith in
    let jn : j < n = omega arith in
    new_place ring flags head n p j z live jn (sym (slot_other ring head n at p j e h room jn) ∙ (q ∙ (ap (slot (set ring at p) head) i ∙ slot_same ring head n at p e h room))))
    (cases_lt k n)

pub count_put : (flags : List ℕ) (p : ℕ) → p < length flags → get_or flags p 0 ≡ 0 → count_by is_set (set flags p 1) ≡ count_by is_set flags + 1
count_put flags p l z =
    let e : sum_by (λ x. cond (is_set x) 1 0) (set flags p 1) + cond (is_set (get_or flags p 0)) 1 0 ≡ sum_by (λ x. cond (is_set x) 1 0) flags + 1 = sum_by-set (λ x. cond (is_set x) 1 0) flags p 1 0 l in
    let f : cond {A = ℕ} (is_set (get_or flags p 0)) 1 0 ≡ 0 = ap (λ x. cond (is_set x) 1 0) z in
    omega arith

pub count_take : (flags : List ℕ) (p : ℕ) → p < length flags → is_set (get_or flags p 0) ≡ true → count_by is_set (set flags p 0) + 1 ≡ count_by is_set flags
count_take flags p l z =
    let e : sum_by (λ x. cond (is_set x) 1 0) (set flags p 0) + cond (is_set (get_or flags p 0)) 1 0 ≡ sum_by (λ x. cond (is_set x) 1 0) flags + 0 = sum_by-set (λ x. cond (is_set x) 1 0) flags p 0 0 l in
    let f : cond {A = ℕ} (is_set (get_or flags p 0)) 1 0 ≡ 1 = ap (λ b. cond b 1 0) z in
    omega arith

pub room_left : (flags : List ℕ) (p : ℕ) → p < length flags → get_or flags p 0 ≡ 0 → count_by is_set flags < length flags
room_left flags p l z =
    let e = count_put flags p l z in
    let m = count_by-le-length is_set (set flags p 1) in
    let s = length-set flags p 1 in
    omega arith

pub flag_within : (flags : List ℕ) (q : ℕ) → is_set (get_or flags q 0) ≡ true → q < length flags
flag_within flags q h = ⊎_elim (λ (l : q < length flags). l) (λ (l : length flags ≤ q). absurd (true≢false (sym h ∙ is_set_no _ (get_or_past flags q 0 l)))) (cases_lt q (length flags))

pub none_wait : (flags : List ℕ) → count_by is_set flags ≡ 0 → (k : ℕ) → is_set (get_or flags k 0) ≡ false
none_wait flags z k =
    ⊎_elim (λ (t : is_set (get_or flags k 0) ≡ true).
    let e = count_take flags k (flag_within flags k t) t in absurd (omega arith))
    (λ (f : is_set (get_or flags k 0) ≡ false). f) (cases_Bool (is_set (get_or flags k 0)))

pub same_maps : (f g : ℕ → ℕ) (a b n : ℕ) → ((k : ℕ) → k < n → f (a + k) ≡ g (b + k)) → map f (range_with_len a n) ≡ map g (range_with_len b n)
same_maps f g a b n h =
    same_lists (map f (range_with_len a n)) (map g (range_with_len b n)) (length-map-range_with_len f a n ∙ sym (length-map-range_with_len g b n))
    (λ k d l. let m : k < n = simp length-map-range_with_len at l in
    get_or-map-range_with_len f a n k (a + k) d m refl ∙ (h k m ∙ sym (get_or-map-range_with_len g b n k (b + k) d m refl)))

pub slots_put : (ring : List ℕ) (head n at p : ℕ) → at ≡ turn (length ring) (head + n) → head < length ring → n < length ring → slots (set ring at p) head (n + 1) ≡ slots ring head n ++ p ∷ []
slots_put ring head n at p e h room =
    let f : ℕ → ℕ = slot (set ring at p) head in
    let g : ℕ → ℕ = slot ring head in
    let same : map f (range_with_len 0 n) ≡ map g (range_with_len 0 n) = same_maps f g 0 0 n (λ k l. simp zero-add (slot_other ring head n at p k e h room l)) in
    map-range_with_len_more f 0 n n (omega arith)
    ∙ (ap (λ t. t ++ f n ∷ []) same ∙ ap (λ x. map g (range_with_len 0 n) ++ x ∷ []) (slot_same ring head n at p e h room))

-- one less at the head

pub slot_next : (ring : List ℕ) (head next k : ℕ) → next ≡ turn (length ring) (head + 1) → head < length ring → k < length ring → slot ring next k ≡ slot ring head (k + 1)
slot_next ring head next k e h l =
    ap (λ i. get_or ring (turn (length ring) (i + k)) 0) e ∙ ap (λ i. get_or ring i 0) (turn_next (length ring) head k h l)

pub live_take : (ring flags : List ℕ) (head next n m p : ℕ) → next ≡ turn (length ring) (head + 1) → head < length ring → n ≤ length ring → n ≡ m + 1 → p ≡ slot ring head 0 → Live ring flags head n → Apart ring head n → Live ring (set flags p 0) next m
live_take ring flags head next n m p e h room nm pe live apart k l =
    let s = slot_next ring head next k e h (omega arith) in
    let ne : slot ring next k ≢ p = λ q. apart 0 (k + 1) (omega arith) (omega arith) (sym pe ∙ (sym q ∙ s)) in
    ap is_set (get_or-set_other flags p (slot ring next k) 0 0 ne) ∙ (ap (λ q. is_set (get_or flags q 0)) s ∙ live (k + 1) (omega arith))

pub apart_take : (ring : List ℕ) (head next n m : ℕ) → next ≡ turn (length ring) (head + 1) → head < length ring → n ≤ length ring → n ≡ m + 1 → Apart ring head n → Apart ring next m
apart_take ring head next n m e h room nm apart j k l b q =
    apart (j + 1) (k + 1) (omega arith) (omega arith) (sym (slot_next ring head next j e h (omega arith)) ∙ (q ∙ slot_next ring head next k e h (omega arith)))

pub slots_take : (ring : List ℕ) (head next n m p : ℕ) → next ≡ turn (length ring) (head + 1) → head < length ring → n ≤ length ring → n ≡ m + 1 → p ≡ slot ring head 0 → slots ring head n ≡ p ∷ slots ring next m
slots_take ring head next n m p e h room nm pe =
    ap (slots ring head) (nm ∙ add-one m)
    ∙ (ap (λ x. x ∷ map (slot ring head) (range_with_len 1 m)) (sym pe)
    ∙ ap (λ t. p ∷ t) (same_maps (slot ring head) (slot ring next) 1 0 m (λ k l. sym (simp zero-add (slot_next ring head next k e h (omega arith)) ∙ ap (slot ring head) (add_comm k 1)))))
