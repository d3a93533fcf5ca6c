-- Readings and peaks hang on the metric and the air alone.
use Rattle.std.proofs.Common.{◌≡◌, ℕ, Some, None, Option, refl}
use Rattle.sheet.specs.Images.{Image}
use Rattle.metric.specs.Model.{Model}
use Rattle.bench.specs.Truth.{Nearest, ReadingTrue, Deepest, PeakTrue, SameAir}
use Rattle.bench.proofs.Nearest.{nearest_one}
use Rattle.bench.proofs.Deepest.{deepest_one}

same_back : (h w : ℕ) (f g : Image) → SameAir h w f g → SameAir h w g f
same_back h w f g same r c row column = ((same r c row column).1, (same r c row column).0)

module _ (m : Model) (h w : ℕ) where
  -- the nearest air of a pixel, in a picture with the same air
  nearest_moves : (f g : Image) → SameAir h w f g → (r c d a : ℕ) → Nearest m h w f r c d a → Nearest m h w g r c d a
  nearest_moves f g same r c d a x = record {
    row = x.row;
    column = x.column;
    on_row = x.on_row;
    on_column = x.on_column;
    is_place = x.is_place;
    is_air = (same x.row x.column x.on_row x.on_column).0 x.is_air;
    is_distance = x.is_distance;
    none_nearer = λ r' c' row column air. x.none_nearer r' c' row column ((same r' c' row column).1 air);
    none_before = λ r' c' row column air. x.none_before r' c' row column ((same r' c' row column).1 air);
  }

  deepest_moves : (f g : Image) → SameAir h w f g → (d p : ℕ) → Deepest m h w f d p → Deepest m h w g d p
  deepest_moves f g same d p x = record {
    row = x.row;
    column = x.column;
    on_row = x.on_row;
    on_column = x.on_column;
    is_place = x.is_place;
    air = x.air;
    has_it = nearest_moves f g same x.row x.column d x.air x.has_it;
    none_deeper = λ r c e a row column near. x.none_deeper r c e a row column (nearest_moves g f (same_back h w f g same) r c e a near);
    none_before = λ r c e a row column near. x.none_before r c e a row column (nearest_moves g f (same_back h w f g same) r c e a near);
  }

  module _ (f g : Image) (same : SameAir h w f g) where
    -- a pixel has one true reading
    pub same_reading : (r c : ℕ) (x y : Option (ℕ × ℕ)) → ReadingTrue m h w f r c x → ReadingTrue m h w g r c y → x ≡ y
    same_reading r c None None p q = refl
    same_reading r c None (Some y) p q = absurd (p q.row q.column q.on_row q.on_column ((same q.row q.column q.on_row q.on_column).1 q.is_air))
    same_reading r c (Some x) None p q = absurd (q p.row p.column p.on_row p.on_column ((same p.row p.column p.on_row p.on_column).0 p.is_air))
    same_reading r c (Some x) (Some y) p q =
        let one = nearest_one m h w g r c x.0 x.1 y.0 y.1 (nearest_moves f g same r c x.0 x.1 p) q in λ i. Some (one.0 i, one.1 i)

    -- and a picture one true peak
    pub same_peak : (x y : Option (ℕ × ℕ)) → PeakTrue m h w f x → PeakTrue m h w g y → x ≡ y
    same_peak None None p q = refl
    same_peak None (Some y) p q = let n = q.has_it in absurd (p n.row n.column n.on_row n.on_column ((same n.row n.column n.on_row n.on_column).1 n.is_air))
    same_peak (Some x) None p q = let n = p.has_it in absurd (q n.row n.column n.on_row n.on_column ((same n.row n.column n.on_row n.on_column).0 n.is_air))
    same_peak (Some x) (Some y) p q =
        let one = deepest_one m h w g x.0 x.1 y.0 y.1 (deepest_moves f g same x.0 x.1 p) q in λ i. Some (one.0 i, one.1 i)
