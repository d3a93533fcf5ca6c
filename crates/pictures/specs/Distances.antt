-- The four metrics by their formulas. x and y are the columns and rows of an offset.
use Rattle.std.specs.Prelude.{ℕ, ◌+◌, ◌-◌, ◌*◌, ◌/◌, ◌%◌, min, max, List, codes}
use Rattle.pictures.specs.declared.formula.Formula.{Formula}
use Rattle.pictures.specs.declared.formula.Formula.TheVariants.{CityBlock, Chessboard, Chamfer, SquaredEuclidean}

-- how far two rows, or two columns, lie apart
abbrev pub apart : ℕ → ℕ → ℕ
apart a b = (a - b) + (b - a)

abbrev pub name_of : Formula → List ℕ
name_of CityBlock = codes "city-block"
name_of Chessboard = codes "chessboard"
name_of Chamfer = codes "chamfer 3-4"
name_of SquaredEuclidean = codes "squared Euclidean"

-- the chamfer distance takes a diagonal step, of weight 4, for each of the lesser number, and straight ones, of weight 3, for the rest
abbrev pub formula_of : Formula → ℕ → ℕ → ℕ
formula_of CityBlock x y = x + y
formula_of Chessboard x y = max x y
formula_of Chamfer x y = 3 * (max x y - min x y) + 4 * min x y
formula_of SquaredEuclidean x y = x * x + y * y

-- the distance of an offset, or the greatest number of 64 bits where that is less
abbrev pub distance_of : Formula → ℕ → ℕ → ℕ
distance_of formula x y = min (formula_of formula x y) 18446744073709551615

-- how far places p and q of a sheet w wide lie apart
abbrev pub distance_between : Formula → ℕ → ℕ → ℕ → ℕ
distance_between formula w p q = distance_of formula (apart (p % w) (q % w)) (apart (p / w) (q / w))
