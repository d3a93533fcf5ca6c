use Rattle.std.proofs.Common.{◌≡◌, ℕ, ◌*◌, ◌/◌, ◌<◌, ◌≤◌, min, List, [], ◌∷◌, get_or, Some, None, Option, sym, refl, ap, subst, arith, below_none, below_more}
use Rattle.sheet.specs.Keys.{blank, key_of, reading_of}
use Rattle.sheet.specs.Images.{Image, image_of, Same, least, least_on}
use Rattle.metric.specs.Model.{Model}
use Rattle.metric.specs.Laws.{Lawful}
use Rattle.metric.specs.Metrics.{squared_euclidean}
use Rattle.metric.specs.Squared.{squared_lawful}
use Rattle.transform.specs.Settled.{air_key, settled}
use Rattle.sheets.proofs.Peaks.{Greatest, PeakOf}
use Rattle.bench.specs.Truth.{ReadingTrue, SameAir}
use Rattle.bench.specs.Examples.{OnlyReading, OnlyPeak}
use Rattle.bench.proofs.Nearest.{settled_reads_true}
use Rattle.bench.proofs.Deepest.{peak_true}
use Rattle.bench.proofs.Alike.{same_reading, same_peak}
use Rattle.bench.proofs.worked_rings.Goals as goal

same_air : (h w : ℕ) (f : Image) → SameAir h w f f
same_air h w f r c row column = (λ air. air, λ air. air)

-- the settled key says the one true reading
only_reading : (m : Model) → Lawful m → (h w : ℕ) → h ≤ 1024 → w ≤ 1024 → (picture : List ℕ) (r c : ℕ) (reading : Option (ℕ × ℕ)) →
    reading_of (settled m h w (image_of w picture) r c) ≡ reading → OnlyReading m h w picture r c reading
only_reading m law h w tall wide picture r c reading says =
    let true-one = subst (ReadingTrue m h w (image_of w picture) r c) says (settled_reads_true m law h w tall wide (image_of w picture) r c) in
    record { holds = true-one; only = λ other is. same_reading m h w _ _ (same_air h w (image_of w picture)) r c other reading is true-one }

-- and the peak of settled keys is the one true peak
only_peak : (m : Model) → Lawful m → (h w : ℕ) → h ≤ 1024 → w ≤ 1024 → 1 ≤ h → 1 ≤ w → (picture keys : List ℕ) → Same h w (image_of w keys) (settled m h w (image_of w picture)) →
    (peak : Option (ℕ × ℕ)) → PeakOf (w * h) keys peak → OnlyPeak m h w picture peak
only_peak m law h w tall wide some-row some-column picture keys holds peak says =
    let true-one = peak_true m law h w tall wide some-row some-column (image_of w picture) keys holds peak says in
    record { holds = true-one; only = λ other is. same_peak m h w _ _ (same_air h w (image_of w picture)) other peak is true-one }

-- what holds of the first few numbers holds of all below
one : (P : ℕ → Type 0) → P 0 → (k : ℕ) → k < 1 → P k
one P a = below_more P 0 (below_none P) a

two : (P : ℕ → Type 0) → P 0 → P 1 → (k : ℕ) → k < 2 → P k
two P a b = below_more P 1 (one P a) b

four : (P : ℕ → Type 0) → P 0 → P 1 → P 2 → P 3 → (k : ℕ) → k < 4 → P k
four P a b c d = below_more P 3 (below_more P 2 (two P a b) c) d

five : (P : ℕ → Type 0) → P 0 → P 1 → P 2 → P 3 → P 4 → (k : ℕ) → k < 5 → P k
five P a b c d e = below_more P 4 (four P a b c d) e

-- images agree on one row, or on two, where they agree at each pixel of it
one_row : (w : ℕ) (f g : Image) → ((c : ℕ) → c < w → f 0 c ≡ g 0 c) → Same 1 w f g
one_row w f g same r c row column = one (λ r. (c : ℕ) → c < w → f r c ≡ g r c) same r row c column

two_rows : (w : ℕ) (f g : Image) → ((c : ℕ) → c < w → f 0 c ≡ g 0 c) → ((c : ℕ) → c < w → f 1 c ≡ g 1 c) → Same 2 w f g
two_rows w f g first second r c row column = two (λ r. (c : ℕ) → c < w → f r c ≡ g r c) first second r row c column

-- the greatest of a few keys
top : (n : ℕ) (keys : List ℕ) (d p : ℕ) → p < n → get_or keys p 0 < blank → d ≡ get_or keys p 0 / 1048576 → ((q : ℕ) → q < n → get_or keys q 0 < blank → get_or keys q 0 / 1048576 ≤ d) →
    ((q : ℕ) → q < p → get_or keys q 0 < blank → get_or keys q 0 / 1048576 < d) → Greatest n keys d p
top n keys d p within filled has_it none_higher none_before = record { within = within; filled = filled; has_it = has_it; none_higher = none_higher; none_before = none_before }

pub returns : goal.returns
unfolding settled air_key least_on least
returns c =
    let worked = c.worked_examples.ensures in
    record {
      figures = worked;
      lone_carbon = λ m law. only_reading m law 1 1 (omega arith) (omega arith) _ 0 0 None (worked.lone_carbon m law);
      lone_carbon_peak = λ m law. only_peak m law 1 1 (omega arith) (omega arith) (omega arith) (omega arith) _ (blank ∷ []) (one_row 1 _ _ (one _ refl)) None (one _ refl);
      lone_air = λ m law. only_reading m law 1 1 (omega arith) (omega arith) _ 0 0 (Some (0, 0)) (worked.lone_air m law);
      lone_air_peak = λ m law. only_peak m law 1 1 (omega arith) (omega arith) (omega arith) (omega arith) _ (0 ∷ []) (one_row 1 _ _ (one _ (ap (λ (d : ℕ). min blank (min blank (key_of d 0))) (sym law.far_zero)))) (Some (0, 0)) (top 1 _ 0 0 (omega arith) (omega arith) refl (one _ (λ _. omega arith)) (λ q before. absurd (omega arith)));
      first_of_equals = only_reading squared_euclidean squared_lawful 1 5 (omega arith) (omega arith) _ 0 2 (Some (4, 0)) worked.first_of_equals;
      first_of_equals_peak = only_peak squared_euclidean squared_lawful 1 5 (omega arith) (omega arith) (omega arith) (omega arith) _ (0 ∷ 1048576 ∷ 4194304 ∷ 1048580 ∷ 4 ∷ []) (one_row 5 _ _ (five _ refl refl refl refl refl)) (Some (4, 2)) (top 5 _ 4 2 (omega arith) (omega arith) refl (five _ (λ _. omega arith) (λ _. omega arith) (λ _. omega arith) (λ _. omega arith) (λ _. omega arith)) (two _ (λ _. omega arith) (λ _. omega arith)));
      row_of_three = only_reading squared_euclidean squared_lawful 1 3 (omega arith) (omega arith) _ 0 2 (Some (4, 0)) refl;
      all_air = only_reading squared_euclidean squared_lawful 2 2 (omega arith) (omega arith) _ 1 1 (Some (0, 3)) refl;
      all_air_peak = only_peak squared_euclidean squared_lawful 2 2 (omega arith) (omega arith) (omega arith) (omega arith) _ (0 ∷ 1 ∷ 2 ∷ 3 ∷ []) (two_rows 2 _ _ (two _ refl refl) (two _ refl refl)) (Some (0, 0)) (top 4 _ 0 0 (omega arith) (omega arith) refl (four _ (λ _. omega arith) (λ _. omega arith) (λ _. omega arith) (λ _. omega arith)) (λ q before. absurd (omega arith)));
    }
