use Rattle.std.proofs.Common.{◌≡◌, ℕ, ◌<◌, min, sym, refl, ap, ◌∙◌, arith, below_none, below_more}
use Rattle.sheet.specs.Pixels.{ring}
use Rattle.sheet.specs.Keys.{blank, key_of, reading_of}
use Rattle.sheet.specs.Images.{Image, Same, least, least_on}
use Rattle.transform.specs.Settled.{air_key, settled}
use Rattle.transform.specs.Erosion.{starting, eroded, rounds, Idle, FirstIdle}
use Rattle.transform.specs.Directional.{swept, sweeps}
use Rattle.transform.proofs.worked_examples.Goals as goal

-- images agree on one row of pixels where they agree at each
one_row : (w : ℕ) (f g : Image) → ((c : ℕ) → c < w → f 0 c ≡ g 0 c) → Same 1 w f g
one_row w f g same r c row column =
    let e : r ≡ 0 = omega arith in
    (λ k. f (e k) c) ∙ same c column ∙ (λ k. g (sym e k) c)

-- what holds of the first one, two and three numbers holds below 1, 2 and 3
one : (P : ℕ → Type 0) → P 0 → (k : ℕ) → k < 1 → P k
one P a = below_more P 0 (below_none P) a

two : (P : ℕ → Type 0) → P 0 → P 1 → (k : ℕ) → k < 2 → P k
two P a b = below_more P 1 (one P a) b

three : (P : ℕ → Type 0) → P 0 → P 1 → P 2 → (k : ℕ) → k < 3 → P k
three P a b c = below_more P 2 (two P a b) c

-- images agree on two rows of two pixels where they agree at each
two_rows : (f g : Image) → f 0 0 ≡ g 0 0 → f 0 1 ≡ g 0 1 → f 1 0 ≡ g 1 0 → f 1 1 ≡ g 1 1 → Same 2 2 f g
two_rows f g a b c d r e row column = two (λ r. (k : ℕ) → k < 2 → f r k ≡ g r k) (two _ a b) (two _ c d) r row e column

-- a series that is idle from the start
at_once : (h w : ℕ) (series : ℕ → Image) → Idle h w series 0 → FirstIdle h w series 1
at_once h w series idle = record { before = 0; next = refl; idle = idle; busy = λ j p. absurd (omega arith) }

pub returns : goal.returns
unfolding swept sweeps settled air_key least_on least rounds starting eroded ring
returns c = record {
  key_of_ten = refl;
  key_of_one = refl;
  far_city_block = refl;
  far_chessboard = refl;
  far_chamfer = refl;
  far_squared_euclidean = refl;
  straight_three = refl;
  diagonal_three = refl;
  lone_carbon = λ m law. refl;
  lone_carbon_rounds = λ m law. record { before = 0; next = refl; idle = one_row 1 _ _ (one _ refl); busy = λ j p. absurd (omega arith) };
  lone_air = λ m law. ap (λ (d : ℕ). reading_of (min blank (min blank (key_of d 0)))) law.far_zero;
  first_of_equals = refl;
  row_of_three = refl;
  row_of_three_rounds = record { before = 2; next = refl; idle = one_row 3 _ _ (three _ refl refl refl); busy = two _ (λ idle. let e : ◌≡◌ {A = ℕ} 1048576 blank = idle 0 1 (omega arith) (omega arith) in omega arith) (λ idle. let e : ◌≡◌ {A = ℕ} 4194304 blank = idle 0 2 (omega arith) (omega arith) in omega arith) };
  all_air_phases = record {
    north = 1;
    south = 1;
    west = 1;
    east = 1;
    columns = record { first_ends = at_once 2 2 _ (two_rows _ _ refl refl refl refl); second_ends = at_once 2 2 _ (two_rows _ _ refl refl refl refl) };
    rows = record { first_ends = at_once 2 2 _ (two_rows _ _ refl refl refl refl); second_ends = at_once 2 2 _ (two_rows _ _ refl refl refl refl) };
    sum = refl;
  };
}
