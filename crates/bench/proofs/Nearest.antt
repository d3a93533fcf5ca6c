-- The settled key of a pixel, read back, is its nearest air: the least distance, and the first air pixel at it.
use Rattle.std.proofs.Common.{◌≡◌, ℕ, zero, suc, ◌/◌, ◌%◌, ◌<◌, ◌≤◌, true, false, eqb, ◌⊎◌, Some, None, sym, refl, ◌∙◌, inl, inr, ⊎_elim, arith}
use Rattle.std.proofs.lemmas.Bool.{cases_lt, cases_Bool, cond-true, cond-false, cond_both, eqb-true, eqb-false}
use Rattle.std.proofs.lemmas.Nat.{mul-le, mul-add-lt}
use Rattle.sheet.specs.Pixels.{place_of, apart}
use Rattle.sheet.specs.Keys.{blank, key_of, reading_of}
use Rattle.sheet.specs.Images.{Image, least, least_on}
use Rattle.metric.specs.Model.{Model}
use Rattle.metric.specs.Laws.{Lawful}
use Rattle.transform.specs.Settled.{air_key, settled}
use Rattle.transform.proofs.Rings.{settled_under}
use Rattle.bench.specs.Truth.{Air, Airless, distance, Nearest, ReadingTrue}

-- the least is blank, or one of those it is taken over
least_met : (n : ℕ) (f : ℕ → ℕ) → (least n f ≡ blank) ⊎ ((k : ℕ) × ((k < n) × (least n f ≡ f k)))
unfolding least
least_met zero f = inl refl
least_met (suc n) f =
    ⊎_elim
    (λ (here : f n < least n f). inr (n, (omega arith, omega arith)))
    (λ (there : least n f ≤ f n).
    ⊎_elim
    (λ (e : least n f ≡ blank). inl (omega arith))
    (λ (x : (k : ℕ) × ((k < n) × (least n f ≡ f k))). let below = x.1.0 in inr (x.0, (omega arith, (let same = x.1.1 in omega arith))))
    (least_met n f))
    (cases_lt (f n) (least n f))

-- a pixel of the sheet at which an image holds this number
abbrev Met : ℕ → ℕ → Image → ℕ → Type 0
Met h w f n = (r : ℕ) × ((c : ℕ) × ((r < h) × (c < w) × (n ≡ f r c)))

least_on_met : (h w : ℕ) (f : Image) → (least_on h w f ≡ blank) ⊎ Met h w f (least_on h w f)
unfolding least_on
least_on_met h w f =
    ⊎_elim inl
    (λ (x : (r : ℕ) × ((r < h) × (least h (λ r'. least w (f r')) ≡ least w (f r)))).
    ⊎_elim
    (λ (e : least w (f x.0) ≡ blank). inl (x.1.1 ∙ e))
    (λ (y : (c : ℕ) × ((c < w) × (least w (f x.0) ≡ f x.0 c))). inr (x.0, (y.0, (x.1.0, y.1.0, x.1.1 ∙ y.1.1))))
    (least_met w (f x.0)))
    (least_met h (λ r. least w (f r)))

module _ (m : Model) (law : Lawful m) (h w : ℕ) (tall : h ≤ 1024) (wide : w ≤ 1024) (picture : Image) where
  -- a place of the sheet is below 1,048,576
  place_low : (r c : ℕ) → r < h → c < w → place_of w r c < 1048576
  place_low r c row column = omega (arith, mul-add-lt r w c h row column, mul-le w h 1024 1024 wide tall)

  -- the key of an air pixel is not blank
  key_low : (r c a b : ℕ) → a < h → b < w → key_of (distance m r c a b) (place_of w a b) < blank
  key_low r c a b row column = let bound = law.far_bound (apart c b) (apart r a) in omega (arith, place_low a b row column)

  -- the key of a pixel is blank, or that of some air pixel
  met_air : (r c : ℕ) → (settled m h w picture r c ≡ blank) ⊎ ((a : ℕ) × ((b : ℕ) × ((a < h) × (b < w) × Air picture a b × (settled m h w picture r c ≡ key_of (distance m r c a b) (place_of w a b)))))
  unfolding settled air_key
  met_air r c =
      ⊎_elim inl
      (λ (x : Met h w (air_key m w picture r c) (settled m h w picture r c)).
      ⊎_elim
      (λ (air : eqb (picture x.0 x.1.0) 0 ≡ true). inr (x.0, (x.1.0, (x.1.1.0, x.1.1.1, eqb-true _ _ air, x.1.1.2 ∙ cond-true _ _ _ air))))
      (λ (carbon : eqb (picture x.0 x.1.0) 0 ≡ false). inl (x.1.1.2 ∙ cond-false _ _ _ carbon))
      (cases_Bool (eqb (picture x.0 x.1.0) 0)))
      (least_on_met h w (air_key m w picture r c))

  -- a blank key: there is no air
  pub blank_airless : (r c : ℕ) → settled m h w picture r c ≡ blank → Airless h w picture
  blank_airless r c e a b row column air =
      let low = key_low r c a b row column in
      let under = settled_under m h w picture r c a b row column air tt in
      omega arith

  -- a key that is not blank: the nearest air
  pub filled_nearest : (r c : ℕ) → (settled m h w picture r c ≡ blank → ⊥) → Nearest m h w picture r c (settled m h w picture r c / 1048576) (settled m h w picture r c % 1048576)
  filled_nearest r c filled = ⊎_elim (λ e. absurd (filled e)) go (met_air r c)
    where
      go : (a : ℕ) × ((b : ℕ) × ((a < h) × (b < w) × Air picture a b × (settled m h w picture r c ≡ key_of (distance m r c a b) (place_of w a b)))) → Nearest m h w picture r c (settled m h w picture r c / 1048576) (settled m h w picture r c % 1048576)
      go x =
          let a = x.0 in
          let b = x.1.0 in
          let row = x.1.1.0 in
          let column = x.1.1.1 in
          let air = x.1.1.2 in
          let k : ℕ = settled m h w picture r c in
          let low : place_of w a b < 1048576 = place_low a b row column in
          let is : k ≡ key_of (distance m r c a b) (place_of w a b) = x.1.1.3 in
          let quotient : k / 1048576 ≡ distance m r c a b = omega arith in
          let rest : k % 1048576 ≡ place_of w a b = omega arith in
          record {
            row = a;
            column = b;
            on_row = row;
            on_column = column;
            is_place = rest;
            is_air = air;
            is_distance = quotient;
            none_nearer = λ r' c' row' column' air'. let under = settled_under m h w picture r c r' c' row' column' air' tt in let low' = place_low r' c' row' column' in omega arith;
            none_before = λ r' c' row' column' air' same. let under = settled_under m h w picture r c r' c' row' column' air' tt in let low' = place_low r' c' row' column' in omega arith;
          }

  -- so what a settled key says is true
  pub settled_reads_true : (r c : ℕ) → ReadingTrue m h w picture r c (reading_of (settled m h w picture r c))
  settled_reads_true r c =
      cond_both (eqb (settled m h w picture r c) blank) None (Some (settled m h w picture r c / 1048576, settled m h w picture r c % 1048576)) (ReadingTrue m h w picture r c)
      (λ e. blank_airless r c (eqb-true _ _ e))
      (λ e. filled_nearest r c (eqb-false _ _ e))

-- a pixel has one nearest air
pub nearest_one : (m : Model) (h w : ℕ) (picture : Image) (r c d a e b : ℕ) → Nearest m h w picture r c d a → Nearest m h w picture r c e b → (d ≡ e) × (a ≡ b)
nearest_one m h w picture r c d a e b x y =
    let there : d ≤ distance m r c y.row y.column = x.none_nearer y.row y.column y.on_row y.on_column y.is_air in
    let back : e ≤ distance m r c x.row x.column = y.none_nearer x.row x.column x.on_row x.on_column x.is_air in
    let same : d ≡ e = omega (arith, x.is_distance, y.is_distance) in
    let low : a ≤ place_of w y.row y.column = x.none_before y.row y.column y.on_row y.on_column y.is_air (sym y.is_distance ∙ sym same) in
    let high : b ≤ place_of w x.row x.column = y.none_before x.row x.column x.on_row x.on_column x.is_air (sym x.is_distance ∙ same) in
    (same, omega (arith, x.is_place, y.is_place))
