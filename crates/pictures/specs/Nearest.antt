-- What a search through all air finds.
use Rattle.std.specs.Prelude.{ℕ, ◌/◌, ◌%◌, ◌==◌, nat_le, cond, List, map, filter, fold, Option, Some, None, option_map}
use Rattle.std.specs.List.{enumerate_from, range_with_len, filter_map}
use Rattle.pictures.specs.declared.formula.Formula.{Formula}
use Rattle.pictures.specs.declared.picture.Pixel.{Pixel}
use Rattle.pictures.specs.Distances.{apart, distance_of, distance_between}

-- the pixel of place p of a sheet w wide
abbrev pub pixel_of : ℕ → ℕ → Pixel
pixel_of w p = record { row = p / w; column = p % w; place = p }

-- how far a pixel lies from another, with its place
abbrev pub reach : Formula → Pixel → Pixel → ℕ × ℕ
reach formula from to = (distance_of formula (apart from.column to.column) (apart from.row to.row), to.place)

-- the pixels of air of a picture w wide
abbrev pub air_of : ℕ → List ℕ → List Pixel
air_of w bytes = map (λ a. pixel_of w a.0) (filter (λ a. a.1 == 0) (enumerate_from 0 bytes))

-- of the nearest so far and another, each a distance and a place, the nearer; the former where they are equal
abbrev pub nearer : Option (ℕ × ℕ) → ℕ × ℕ → Option (ℕ × ℕ)
nearer None next = Some next
nearer (Some best) next = cond (nat_le best.0 next.0) (Some best) (Some next)

-- the same with the farther
abbrev pub farther : Option (ℕ × ℕ) → ℕ × ℕ → Option (ℕ × ℕ)
farther None next = Some next
farther (Some best) next = cond (nat_le next.0 best.0) (Some best) (Some next)

-- the first air of a picture w wide that is nearest to place p, with its distance
abbrev pub nearest_of : Formula → ℕ → List ℕ → ℕ → Option (ℕ × ℕ)
nearest_of formula w bytes p =
    fold nearer None (map (λ a. (distance_between formula w p a.0, a.0)) (filter (λ a. a.1 == 0) (enumerate_from 0 bytes)))

-- what is nearest to each of the first n places
abbrev pub readings_of : Formula → ℕ → List ℕ → ℕ → List (Option (ℕ × ℕ))
readings_of formula w bytes n = map (nearest_of formula w bytes) (range_with_len 0 n)

-- the first place whose reading has the greatest distance, with that distance
abbrev pub peak_of : List (Option (ℕ × ℕ)) → Option (ℕ × ℕ)
peak_of readings = fold farther None (filter_map (λ a. option_map (λ found. (found.0, a.0)) a.1) (enumerate_from 0 readings))
