-- What holds within the free order; for the inner functions only.
use Rattle.std.specs.Prelude.{◌≡◌, ℕ, zero, suc, ◌+◌, ◌*◌, ◌<◌, ◌≤◌, min, Bool, false, cond, not, ◌&&◌, List, length, sum, ◌==◌, nat_le, nat_lt, slice_index, slice_index_or}
use Rattle.sheet.specs.declared.size.Size.{Size}
use Rattle.sheet.specs.Pixels.{place_of, apart, ring, weight_of}
use Rattle.sheet.specs.Keys.{blank, stepped}
use Rattle.sheet.specs.Images.{image_of}
use Rattle.front.specs.Waiting.{many}
use Rattle.erosion.specs.Memory.{past}
use Rattle.settling.specs.Spreading.{HasRoom, LoweredWait}

-- what one or more offers do: keys only fall, and lowered places are put
pub record Relaxed (keys keys' : List ℕ) (waits waits' : List Bool) : Type 0 where
  pub falls : (k : ℕ) → slice_index keys' k ≤ slice_index keys k
  pub put : LoweredWait keys keys' waits waits'
  pub same_size : length waits' ≡ length waits
  pub less : sum keys' + many waits' ≤ sum keys + many waits

-- and besides: what lies past the sheet stays, and none is counted
pub record Offers (size : Size) (keys keys' : List ℕ) (waits waits' : List Bool) (tally tally' : ℕ) : Type 0 where
  pub rest : past size keys' ≡ past size keys
  pub relaxed : Relaxed keys keys' waits waits'
  pub same_tally : tally' ≡ tally

-- a row after its pixel in the given column was offered one key, and each beside it another
abbrev pub offered : ℕ → ℕ → ℕ → (ℕ → ℕ) → ℕ → ℕ
offered middle side column line c = cond (nat_le (apart column c) 1) (min (line c) (cond (c == column) middle side)) (line c)

-- how many of the first n places have a key and do not wait
abbrev pub at_rest : List ℕ → List Bool → ℕ → Bool
at_rest keys waits k = nat_lt (slice_index keys k) blank && not (slice_index_or waits k false)

abbrev pub resting : List ℕ → List Bool → ℕ → ℕ
resting keys waits zero = 0
resting keys waits (suc n) = cond (at_rest keys waits n) 1 0 + resting keys waits n

-- what holds between two takes: no place past the sheet waits, a pixel that does not wait can lower no neighbour, and each
-- pixel that has a key and does not wait was taken
pub record BetweenTakes (size : Size) (straight diagonal : ℕ) (keys : List ℕ) (waits : List Bool) (tally : ℕ) : Type 0 where
  pub room : HasRoom size waits
  pub inside : (k : ℕ) → size.width * size.height ≤ k → slice_index_or waits k false ≡ false
  pub quiet : (r c r' c' : ℕ) → r < size.height → c < size.width → r' < size.height → c' < size.width → ring r c r' c' ≡ 1 → slice_index_or waits (place_of size.width r' c') false ≡ false →
      image_of size.width keys r c ≤ stepped (image_of size.width keys r' c') (weight_of straight diagonal (apart c c') (apart r r'))
  pub taken : resting keys waits (size.width * size.height) ≤ tally
