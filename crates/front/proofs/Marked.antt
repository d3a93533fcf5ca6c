-- Lemmas on marks.
use Rattle.std.proofs.Common.{◌≡◌, ℕ, zero, suc, ◌+◌, ◌-◌, ◌<◌, ◌≤◌, Bool, true, false, eqb, leb, List, [], ◌∷◌, ◌++◌, map, length, get_or, take, drop, set, replicate, None, position, sym, refl, ap, ◌∙◌, ⊎_elim, arith, below_more}
use lib.ListN.{length-replicate}
use Rattle.std.proofs.lemmas.Grind.{common_steps}
use Rattle.std.specs.List.{position_or_len}
use Rattle.std.proofs.lemmas.List.{same_lists, get_or_default, get_or-replicate, length-map, map-set, get_or-map, get_or_past, get_or-take, get_or-drop, get_or-set_same, get_or-set_other, take_at, length-take-le, length-drop}
use Rattle.std.proofs.lemmas.Bool.{not-false, ne_eqb, not_from_false, not_from_true, eq-eqb, cases_lt, cases_Bool, eqb-true, lt-leb}
use Rattle.sheet.specs.declared.refusal.Refusal.TheVariants.{OutOfRange}
use Rattle.sheet.specs.Refusals.{check, passed}
use Rattle.front.specs.Waiting.{idle}
use Rattle.front.specs.Memory.{is_set, marked, ClearBelow}

map_replicate : {X Y : Type 0} (f : X → Y) (n : ℕ) (x : X) → map f (replicate n x) ≡ replicate n (f x)
map_replicate f zero x = refl
map_replicate f (suc n) x = ap (λ t. f x ∷ t) (map_replicate f n x)

pub is_set_yes : (m : ℕ) → (m ≡ 0 → ⊥) → is_set m ≡ true
is_set_yes m h = not_from_false (eqb m 0) (ne_eqb m 0 h)

pub is_set_no : (m : ℕ) → m ≡ 0 → is_set m ≡ false
is_set_no m h = not_from_true (eqb m 0) (eq-eqb m 0 h)

pub length_marked : (ms : List ℕ) (n : ℕ) → n ≤ length ms → length (marked n ms) ≡ n
length_marked ms n h = length-map (take n ms) is_set ∙ length-take-le n ms h

-- a flag, past the end too
pub get_or_marked : (ms : List ℕ) (n k : ℕ) → get_or (marked n ms) k false ≡ is_set (get_or (take n ms) k 0)
get_or_marked ms n k =
    ⊎_elim (λ (l : k < length (take n ms)). get_or-map is_set (take n ms) k 0 false l)
    (λ (l : length (take n ms) ≤ k). let l' : length (marked n ms) ≤ k = simp length-map l in get_or_past (marked n ms) k false l' ∙ sym (ap is_set (get_or_past (take n ms) k 0 l)))
    (cases_lt k (length (take n ms)))

-- a flag below the size
pub get_or_marked_in : (ms : List ℕ) (n k : ℕ) → k < n → get_or (marked n ms) k false ≡ is_set (get_or ms k 0)
get_or_marked_in ms n k l = get_or_marked ms n k ∙ ap is_set (get_or-take n ms k 0 l)

pub all_false : (ws : List Bool) (n : ℕ) → length ws ≡ n → ((k : ℕ) → get_or ws k false ≡ false) → ws ≡ idle n
all_false ws n e h =
    same_lists ws (replicate n false) (e ∙ sym (length-replicate n false))
    (λ k d lt. let l : k < n = omega arith in get_or_default ws k d false lt ∙ (h k ∙ sym (get_or-replicate n k false d l)))

pub length_cut : (ms : List ℕ) (n low : ℕ) → n ≤ length ms → length (take (n - low) (drop low ms)) ≡ n - low
length_cut ms n low h = length-take-le (n - low) (drop low ms) (rw (length-drop low ms) (omega arith))

-- a flag from `low` on
pub get_or_marked_from : (ms : List ℕ) (n low k : ℕ) → low ≤ k → k < n → get_or (marked n ms) k false ≡ is_set (get_or (take (n - low) (drop low ms)) (k - low) 0)
get_or_marked_from ms n low k h l =
    let same : low + (k - low) ≡ k = omega arith in
    get_or_marked_in ms n k l
    ∙ ap (λ i. is_set (get_or ms i 0)) (sym same)
    ∙ sym (ap is_set (get_or-take (n - low) (drop low ms) (k - low) 0 (omega arith) ∙ get_or-drop low ms (k - low) 0))

-- one mark is written
pub take_set_in : (n : ℕ) (ms : List ℕ) (i m : ℕ) → take n (set ms i m) ≡ set (take n ms) i m
take_set_in zero ms i m = refl
take_set_in (suc n) [] i m = refl
take_set_in (suc n) (x ∷ ms) zero m = refl
take_set_in (suc n) (x ∷ ms) (suc i) m = ap (λ t. x ∷ t) (take_set_in n ms i m)

pub marked_set : (n : ℕ) (ms : List ℕ) (p m : ℕ) → marked n (set ms p m) ≡ set (marked n ms) p (is_set m)
marked_set n ms p m = ap (map is_set) (take_set_in n ms p m) ∙ map-set is_set (take n ms) p m

-- nothing is marked up to a place that is cleared above marks that are not set
pub clear_up_to : (ms : List ℕ) (p : ℕ) → p < length ms → ((k : ℕ) → k < p → is_set (get_or ms k 0) ≡ false) → ClearBelow (set ms p 0) (p + 1)
clear_up_to ms p l h =
    below_more (λ k. get_or (set ms p 0) k 0 ≡ 0) p
    (λ k b. let ne : k ≡ p → ⊥ = λ e. omega arith in get_or-set_other ms p k 0 0 ne ∙ eqb-true _ _ (not-false (eqb (get_or ms k 0) 0) (h k b)))
    (get_or-set_same ms p 0 0 l)

-- the first marks are cleared
pub cleared : (ms : List ℕ) (n : ℕ) → marked n (replicate n 0 ++ drop n ms) ≡ idle n
cleared ms n = ap (map is_set) (take_at (replicate n 0) (drop n ms) n (length-replicate n 0)) ∙ map_replicate is_set n 0

-- where no mark is found, none is set
unset_more : (m : ℕ) (ms : List ℕ) → is_set m ≡ false → ((k : ℕ) → is_set (get_or ms k 0) ≡ false) → (k : ℕ) → is_set (get_or (m ∷ ms) k 0) ≡ false
unset_more m ms e h zero = e
unset_more m ms e h (suc k) = h k

unset : (ms : List ℕ) → length ms ≤ position_or_len is_set ms → (k : ℕ) → is_set (get_or ms k 0) ≡ false
unset [] h k = refl
unset (m ∷ ms) h k = ⊎_elim (λ (e : is_set m ≡ true). absurd (let z : position_or_len is_set (m ∷ ms) ≡ 0 = rw e refl in omega arith))
    (λ (e : is_set m ≡ false).
    let z : position_or_len is_set (m ∷ ms) ≡ 1 + position_or_len is_set ms = rw e refl in
    let l : length ms ≤ position_or_len is_set ms = omega arith in
    unset_more m ms e (unset ms l) k)
    (cases_Bool (is_set m))

pub unset_where_none : (ms : List ℕ) → position is_set ms ≡ None → (k : ℕ) → is_set (get_or ms k 0) ≡ false
unset_where_none ms e = let l : length ms ≤ position_or_len is_set ms = grind (arith, common_steps) in unset ms l

-- the refusal of a place
pub in_range : (ms : List ℕ) (n p : ℕ) → n ≤ length ms → p < n → check (leb (length (marked n ms)) p) OutOfRange passed ≡ None
in_range ms n p h l = let e : leb (length (marked n ms)) p ≡ false = lt-leb _ _ (rw (length_marked ms n h) l) in rw e refl
