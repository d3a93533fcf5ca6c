-- The bytes of the pictures.
use Rattle.std.specs.Prelude.{◌≡◌, ℕ, ◌+◌, ◌*◌, ◌/◌, ◌<◌, ◌==◌, nat_le, ◌&&◌, ◌||◌, not, cond, Bool, List, [], ◌∷◌, ◌++◌, zero, suc, map, length, slice_index, slice_range}
use Rattle.pictures.specs.Distances.{apart}

-- there are n bytes, and this is each
abbrev pub HasBytes : List ℕ → ℕ → (ℕ → ℕ) → Type 0
HasBytes bytes n byte = (length bytes ≡ n) × ((k : ℕ) → k < n → slice_index bytes k ≡ byte k)

-- 1 for carbon and 0 for air
abbrev pub byte_of : Bool → ℕ
byte_of carbon = cond carbon 1 0

-- a full stop for air, and a hash for carbon, which any other byte is
abbrev pub letter : ℕ → ℕ
letter byte = cond (byte == 0) 46 35

-- the letters of a row of a picture w wide
abbrev pub line_of : ℕ → List ℕ → ℕ → List ℕ
line_of w bytes r = map letter (slice_range bytes (r * w) (r * w + w))

-- the first n of every second row, each with the end of a line
unfoldable pub lines_of : ℕ → List ℕ → ℕ → List ℕ
lines_of w bytes zero = []
lines_of w bytes (suc n) = lines_of w bytes n ++ line_of w bytes (2 * n) ++ 10 ∷ []

-- air at the first place alone
abbrev pub corner_byte : ℕ → ℕ
corner_byte k = byte_of (not (k == 0))

-- the square of the distance between two pixels, by row and column
abbrev pub square_of : ℕ → ℕ → ℕ → ℕ → ℕ
square_of r c r' c' = apart r r' * apart r r' + apart c c' * apart c c'

-- between the radii 17 and 29, counted in half pixels from the middle of a picture of 96 × 64
abbrev pub wall : ℕ → ℕ → Bool
wall r c = nat_le 1156 (square_of (2 * r) (2 * c) 63 95) && nat_le (square_of (2 * r) (2 * c) 63 95) 3364

-- a slanted line from the outside into the wall
abbrev pub crack : ℕ → ℕ → Bool
crack r c = nat_le r 11 && c == 50 + r / 2

-- four discs of air
abbrev pub void : ℕ → ℕ → Bool
void r c =
    nat_le (square_of r c 31 24) 5
    || nat_le (square_of r c 52 38) 2
    || nat_le (square_of r c 44 68) 9
    || nat_le (square_of r c 20 66) 0

unfoldable pub ring : ℕ → ℕ → Bool
ring r c = wall r c && not (crack r c) && not (void r c)

abbrev pub ring_byte : ℕ → ℕ → ℕ
ring_byte r c = byte_of (ring r c)
