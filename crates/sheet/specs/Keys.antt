-- Keys: a distance and the place of an air pixel in one number, so that the least key has the least distance and,
-- among equal distances, the first air pixel in raster order.
use Rattle.std.specs.Prelude.{ℕ, ◌+◌, ◌*◌, ◌/◌, ◌%◌, min, cond, Some, None, Option, ◌==◌}

-- the greatest number of 64 bits: no air is known
abbrev pub blank : ℕ
blank = 18446744073709551615

-- the key of a distance and the place of an air pixel
abbrev pub key_of : ℕ → ℕ → ℕ
key_of distance place = distance * 1048576 + place

-- a key stepped by a weight; a sum past the blank key is blank
abbrev pub stepped : ℕ → ℕ → ℕ
stepped key weight = min (key + weight * 1048576) blank

-- what a key says: a distance together with the place of its air, and nothing where it is blank
abbrev pub reading_of : ℕ → Option (ℕ × ℕ)
reading_of key = cond (key == blank) None (Some (key / 1048576, key % 1048576))
