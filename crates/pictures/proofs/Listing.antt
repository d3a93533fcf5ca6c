-- A search through the air, listed once, finds what a search through the whole picture does.
use Rattle.std.proofs.Common.{◌≡◌, ◌==◌, ◌∙◌, ℕ, List, None, map, fold, filter, ap}
use Rattle.std.specs.List.{enumerate_from}
use Rattle.std.proofs.lemmas.Simd.{map-map}
use Rattle.pictures.specs.declared.formula.Formula.{Formula}
use Rattle.pictures.specs.declared.picture.Pixel.{Pixel}
use Rattle.pictures.specs.Nearest.{pixel_of, reach, nearer, air_of, nearest_of}

pub listed : (formula : Formula) (w : ℕ) (bytes : List ℕ) (air : List Pixel) (p : ℕ) → air ≡ air_of w bytes
    → fold nearer None (map (reach formula (pixel_of w p)) air) ≡ nearest_of formula w bytes p
listed formula w bytes air p e =
    ap (λ pixels. fold nearer None (map (reach formula (pixel_of w p)) pixels)) e
    ∙ ap (fold nearer None) (map-map (reach formula (pixel_of w p)) (λ a. pixel_of w a.0) (filter (λ a. a.1 == 0) (enumerate_from 0 bytes)))
