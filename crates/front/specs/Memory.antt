-- How fronts lie in memory: marks, one for each place, and a ring of places.
use Rattle.std.specs.Prelude.{◌≡◌, ℕ, ◌+◌, ◌-◌, ◌<◌, ◌≤◌, Bool, true, cond, not, List, map, length, take, ◌==◌, ◌≢◌, nat_lt, slice_index}
use Rattle.std.proofs.Common.{length-take, arith}
use Rattle.std.specs.List.{range_with_len}
use Rattle.std.proofs.lemmas.List.{length-map}

-- a mark says whether its place waits
abbrev pub is_set : ℕ → Bool
is_set m = not (m == 0)

-- which of the first n places of a memory wait
abbrev pub marked : ℕ → List ℕ → List Bool
marked n ms = map is_set (take n ms)

-- no front has more than 1,048,576 places
pub marked_bounded : (ms : List ℕ) (n : ℕ) → n ≤ 1048576 → length (marked n ms) ≤ 1048576
marked_bounded ms n h = simp (length-map, length-take) (omega (arith, h))

-- an index of a ring of n, counted past its end
abbrev pub turn : ℕ → ℕ → ℕ
turn n i = cond (nat_lt i n) i (i - n)

-- the k-th place from the head of a ring
abbrev pub slot : List ℕ → ℕ → ℕ → ℕ
slot rs h k = slice_index rs (turn (length rs) (h + k))

-- the n places from the head of a ring, in turn
abbrev pub slots : List ℕ → ℕ → ℕ → List ℕ
slots rs h n = map (slot rs h) (range_with_len 0 n)

-- each of the n places from the head is marked
abbrev pub Live : List ℕ → List ℕ → ℕ → ℕ → Type 0
Live rs ms h n = (k : ℕ) → k < n → is_set (slice_index ms (slot rs h k)) ≡ true

-- no two of the n places from the head are the same
abbrev pub Apart : List ℕ → ℕ → ℕ → Type 0
Apart rs h n = (j k : ℕ) → j < k → k < n → slot rs h j ≢ slot rs h k

-- no mark stands below a place
abbrev pub ClearBelow : List ℕ → ℕ → Type 0
ClearBelow ms p = (q : ℕ) → q < p → slice_index ms q ≡ 0
