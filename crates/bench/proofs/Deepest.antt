-- The peak of settled keys is the deepest pixel: the greatest of all least distances to air, and the first pixel that has it.
use Rattle.std.proofs.Common.{◌≡◌, ℕ, ◌*◌, ◌/◌, ◌%◌, ◌<◌, ◌≤◌, List, get_or, Some, None, Option, sym, ap, ◌∙◌, subst, ⊎_elim, mul_comm, arith}
use Rattle.std.proofs.lemmas.Bool.{cases_lt}
use Rattle.std.proofs.lemmas.Nat.{mul-add-lt, div-add-mod', div_below, mod_below}
use Rattle.sheet.specs.Pixels.{place_of}
use Rattle.sheet.specs.Keys.{blank}
use Rattle.sheet.specs.Images.{Image, image_of, Same}
use Rattle.metric.specs.Model.{Model}
use Rattle.metric.specs.Laws.{Lawful}
use Rattle.transform.specs.Settled.{settled}
use Rattle.sheets.specs.Calls.{peak_of}
use Rattle.sheets.proofs.Peaks.{PeakOf, peak_meets}
use Rattle.bench.specs.Truth.{Nearest, Deepest, PeakTrue}
use Rattle.transform.proofs.Rings.{settled_blank}
use Rattle.bench.proofs.Nearest.{blank_airless, filled_nearest, nearest_one}

module _ (m : Model) (law : Lawful m) (h w : ℕ) (tall : h ≤ 1024) (wide : w ≤ 1024) (some-row : 1 ≤ h) (some-column : 1 ≤ w) (picture : Image)
    (keys : List ℕ) (holds : Same h w (image_of w keys) (settled m h w picture)) where
  -- where a pixel has a nearest air, its key holds that distance
  held : (r c e a : ℕ) → r < h → c < w → Nearest m h w picture r c e a → (get_or keys (place_of w r c) 0 < blank) × (e ≡ get_or keys (place_of w r c) 0 / 1048576)
  held r c e a row column near =
      let k : ℕ = settled m h w picture r c in
      let filled : k ≡ blank → ⊥ = λ b. blank_airless m law h w tall wide picture r c b near.row near.column near.on_row near.on_column near.is_air in
      let same : e ≡ k / 1048576 = (nearest_one m h w picture r c e a (k / 1048576) (k % 1048576) near (filled_nearest m law h w tall wide picture r c filled)).0 in
      coe 1 0 (i. (holds r c row column i < blank) × (e ≡ holds r c row column i / 1048576)) (let low = settled_blank m h w picture r c in let some : k < blank = ⊎_elim (λ (lt : k < blank). lt) (λ (ge : blank ≤ k). absurd (filled (omega arith))) (cases_lt k blank) in (some, same))

  pub peak_true : (peak : Option (ℕ × ℕ)) → PeakOf (w * h) keys peak → PeakTrue m h w picture peak
  peak_true None all = blank_airless m law h w tall wide picture 0 0 (sym (holds 0 0 some-row some-column) ∙ all (place_of w 0 0) (mul-add-lt 0 w 0 h some-row some-column))
  peak_true (Some peak) g =
      let d : ℕ = peak.0 in
      let p : ℕ = peak.1 in
      let within : p < w * h = g.within in
      let row : p / w < h = div_below p w h some-column (subst (λ (n : ℕ). p < n) (mul_comm w h) within) in
      let column : p % w < w = mod_below p w some-column in
      let place : p ≡ place_of w (p / w) (p % w) = sym (div-add-mod' p w) in
      let k : ℕ = settled m h w picture (p / w) (p % w) in
      let key : get_or keys p 0 ≡ k = ap (λ (q : ℕ). get_or keys q 0) place ∙ holds (p / w) (p % w) row column in
      let filled : k ≡ blank → ⊥ = λ e. let low : get_or keys p 0 < blank = g.filled in omega arith in
      record {
        row = p / w;
        column = p % w;
        on_row = row;
        on_column = column;
        is_place = place;
        air = k % 1048576;
        has_it = subst (λ (n : ℕ). Nearest m h w picture (p / w) (p % w) n (k % 1048576)) (sym (g.has_it ∙ ap (λ (n : ℕ). n / 1048576) key)) (filled_nearest m law h w tall wide picture (p / w) (p % w) filled);
        none_deeper = λ r c e a row' column' near.
            let f = held r c e a row' column' near in
            subst (λ (n : ℕ). n ≤ d) (sym f.1) (g.none_higher (place_of w r c) (mul-add-lt r w c h row' column') f.0);
        none_before = λ r c e a row' column' near same.
            let f = held r c e a row' column' near in
            ⊎_elim
            (λ (before : place_of w r c < p). absurd (let less = g.none_before (place_of w r c) before f.0 in let is = f.1 in omega arith))
            (λ (after : p ≤ place_of w r c). after)
            (cases_lt (place_of w r c) p);
      }

  -- a peak that is given is true
  pub peak_given : (peak : Option (ℕ × ℕ)) → peak ≡ peak_of (w * h) keys → PeakTrue m h w picture peak
  peak_given peak e =
      peak_true peak (subst (PeakOf (w * h) keys) (sym e) (peak_meets (w * h) keys (λ q l.
      let row : q / w < h = div_below q w h some-column (subst (λ (n : ℕ). q < n) (mul_comm w h) l) in
      let column : q % w < w = mod_below q w some-column in
      let key : get_or keys q 0 ≡ settled m h w picture (q / w) (q % w) = ap (λ (i : ℕ). get_or keys i 0) (sym (div-add-mod' q w)) ∙ holds (q / w) (q % w) row column in
      subst (λ (n : ℕ). n ≤ blank) (sym key) (settled_blank m h w picture (q / w) (q % w)))))

-- a picture has one deepest pixel
pub deepest_one : (m : Model) (h w : ℕ) (picture : Image) (d p e q : ℕ) → Deepest m h w picture d p → Deepest m h w picture e q → (d ≡ e) × (p ≡ q)
deepest_one m h w picture d p e q x y =
    let there : d ≤ e = y.none_deeper x.row x.column d x.air x.on_row x.on_column x.has_it in
    let back : e ≤ d = x.none_deeper y.row y.column e y.air y.on_row y.on_column y.has_it in
    let same : d ≡ e = omega arith in
    let low : p ≤ place_of w y.row y.column = x.none_before y.row y.column e y.air y.on_row y.on_column y.has_it (sym same) in
    let high : q ≤ place_of w x.row x.column = y.none_before x.row x.column d x.air x.on_row x.on_column x.has_it same in
    (same, omega (arith, x.is_place, y.is_place))
