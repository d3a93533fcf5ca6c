-- The free order from its beginning to its end: the starting image with all air waiting, and nothing waiting.
use Rattle.std.proofs.Common.{◌≡◌, ℕ, zero, suc, ◌*◌, ◌/◌, ◌%◌, ◌<◌, ◌≤◌, Bool, true, false, cond, not, eqb, ltb, List, length, get_or, sym, refl, ap, ◌∙◌, subst, ⊎_elim, le_trans, mul_comm, arith}
use lib.ListN.{length-replicate}
use Rattle.std.proofs.lemmas.List.{get_or_default, get_or_past, get_or-replicate, same_lists}
use Rattle.std.proofs.lemmas.Nat.{mul-add-lt, mul-le, div-add-mod', div_below, mod_below}
use Rattle.std.proofs.lemmas.Bool.{cases_lt, cases_Bool, cond-false, ne_eqb, lt-ltb, ltb-true, and_parts, and_from, not-true}
use Rattle.sheet.specs.declared.size.Size.{Size}
use Rattle.sheet.specs.Pixels.{place_of}
use Rattle.sheet.specs.Keys.{blank, key_of, stepped}
use Rattle.sheet.specs.Images.{Image, image_of}
use Rattle.metric.specs.Model.{Model}
use Rattle.metric.specs.Laws.{Lawful}
use Rattle.front.specs.Waiting.{NoneWaits, idle}
use Rattle.transform.specs.Settled.{settled}
use Rattle.transform.specs.Erosion.{starting}
use Rattle.transform.specs.Free.{Stable, Below}
use Rattle.transform.proofs.Rings.{settled_under}
use Rattle.transform.proofs.Rounds.{starting_blank}
use Rattle.transform.proofs.Steady.{settled_start, settled_stable, stable_settles}
use Rattle.erosion.specs.Memory.{Shows}
use Rattle.settling.specs.Within.{BetweenTakes, at_rest, resting}
use Rattle.settling.specs.Orders.{CountsTakes}

-- a row and a column for each place of the sheet
pub row_below : (w h k : ℕ) → 0 < w → k < w * h → k / w < h
row_below w h k p l = div_below k w h p (subst (λ n. k < n) (mul_comm w h) l)

resting_none : (ks : List ℕ) (ws : List Bool) (n : ℕ) → ((k : ℕ) → k < n → at_rest ks ws k ≡ true → ⊥) → resting ks ws n ≡ 0
resting_none ks ws zero h = refl
resting_none ks ws (suc n) h =
    let i = resting_none ks ws n (λ k l. h k (omega arith)) in
    ⊎_elim
    (λ (t : at_rest ks ws n ≡ true). absurd (h n (omega arith) t))
    (λ (e : at_rest ks ws n ≡ false). let o : cond {A = ℕ} (at_rest ks ws n) 1 0 ≡ 0 = ap (λ b. cond {A = ℕ} b 1 0) e in omega arith)
    (cases_Bool (at_rest ks ws n))

resting_all : (ks : List ℕ) (ws : List Bool) (n : ℕ) → ((k : ℕ) → k < n → at_rest ks ws k ≡ true) → n ≤ resting ks ws n
resting_all ks ws zero h = omega arith
resting_all ks ws (suc n) h =
    let i = resting_all ks ws n (λ k l. h k (omega arith)) in
    let o : cond {A = ℕ} (at_rest ks ws n) 1 0 ≡ 1 = ap (λ b. cond {A = ℕ} b 1 0) (h n (omega arith)) in
    omega arith

-- a front in which no place waits
pub idle_empty : (ws : List Bool) (n : ℕ) → ws ≡ idle n → NoneWaits ws
idle_empty ws n e k =
    ap (λ (v : List Bool). get_or v k false) e
    ∙ ⊎_elim
    (λ (l : k < n). get_or-replicate n k false false l)
    (λ (l : n ≤ k). get_or_past (idle n) k false (subst (λ i. i ≤ k) (sym (length-replicate n false)) l))
    (cases_lt k n)

pub empty_idle : (ws : List Bool) (n : ℕ) → length ws ≡ n → NoneWaits ws → ws ≡ idle n
empty_idle ws n e none =
    same_lists ws (idle n) (e ∙ sym (length-replicate n false)) (λ k b l. get_or_default ws k b false l ∙ none k ∙ sym (get_or-replicate n k false b (omega arith)))

module _ (size : Size) (picture : List ℕ) where
  -- the picture
  abbrev pub pic : Image
  pic = image_of size.width picture

  -- each place of the sheet is a pixel's
  at_pixel : (P : ℕ → Type 0) → ((r c : ℕ) → r < size.height → c < size.width → P (place_of size.width r c)) → (k : ℕ) → k < size.width * size.height → P k
  at_pixel P all k l =
      subst P (div-add-mod' k size.width) (all (k / size.width) (k % size.width) (row_below size.width size.height k size.columns l) (mod_below k size.width size.columns))

  module _ (ks : List ℕ) (ws : List Bool) (begins : Shows size ks (starting size.width pic)) (air : (k : ℕ) → k < size.width * size.height → get_or ws k false ≡ eqb (get_or picture k 0) 0) where
    -- a pixel that does not wait at the beginning is blank
    idle_blank : (r c : ℕ) → r < size.height → c < size.width → get_or ws (place_of size.width r c) false ≡ false → image_of size.width ks r c ≡ blank
    unfolding starting
    idle_blank r c row column e =
        begins r c row column
        ∙ cond-false _ _ _ (sym (air (place_of size.width r c) (mul-add-lt r size.width c size.height row column)) ∙ e)

    pub begun : (s d t : ℕ) → size.width * size.height ≤ length ws → ((k : ℕ) → size.width * size.height ≤ k → get_or ws k false ≡ false) → BetweenTakes size s d ks ws t
    begun s d t room inside = record {
      room = room;
      inside = inside;
      quiet = λ r c r' c' row column row' column' near e.
          small _ _ _ (subst (λ n. n ≤ blank) (sym (begins r c row column)) (starting_blank size.height size.width pic r c size.tall size.wide row column)) (idle_blank r' c' row' column' e);
      taken = none (resting_none ks ws (size.width * size.height) (at_pixel (λ k. at_rest ks ws k ≡ true → ⊥) (λ r c row column yes-rests.
          let parts = and_parts (ltb (image_of size.width ks r c) blank) (not (get_or ws (place_of size.width r c) false)) yes-rests in
          let e = idle_blank r c row column (not-true _ parts.1) in
          let l = ltb-true _ _ parts.0 in
          omega arith)));
    }
      where
        small : (n key v : ℕ) → n ≤ blank → key ≡ blank → n ≤ stepped key v
        small n key v p e = omega arith

        none : {n : ℕ} → n ≡ 0 → n ≤ t
        none e = omega arith

    -- without air nothing waits
    pub airless_empty : ((k : ℕ) → size.width * size.height ≤ k → get_or ws k false ≡ false) → ((r c : ℕ) → r < size.height → c < size.width → pic r c ≡ 0 → ⊥) → NoneWaits ws
    airless_empty inside airless k =
        ⊎_elim
        (λ (l : k < size.width * size.height).
        at_pixel (λ i. get_or ws i false ≡ false) (λ r c row column. air (place_of size.width r c) (mul-add-lt r size.width c size.height row column) ∙ ne_eqb _ _ (airless r c row column)) k l)
        (λ (l : size.width * size.height ≤ k). inside k l)
        (cases_lt k (size.width * size.height))

  module _ (m : Model) (law : Lawful m) (steady : m.steady ≡ true) (ks ks' : List ℕ) (ws' : List Bool) (t' : ℕ) (between : BetweenTakes size (m.straight 1) (m.diagonal 1) ks' ws' t') (none : NoneWaits ws') where
    pub ended_settled : Shows size ks (starting size.width pic) → ((k : ℕ) → get_or ks' k 0 ≤ get_or ks k 0) →
        ((goal : Image) → Stable size.height size.width (m.straight 1) (m.diagonal 1) goal → Below size.height size.width goal (image_of size.width ks) → Below size.height size.width goal (image_of size.width ks')) →
        Shows size ks' (settled m size.height size.width pic)
    ended_settled begins falls above =
        stable_settles m law steady size.height size.width pic size.tall size.wide (image_of size.width ks')
        (λ r c row column. subst (λ n. image_of size.width ks' r c ≤ n) (begins r c row column) (falls (place_of size.width r c)))
        (above (settled m size.height size.width pic) (settled_stable m law steady size.height size.width pic size.tall size.wide)
        (λ r c row column. subst (λ n. settled m size.height size.width pic r c ≤ n) (sym (begins r c row column)) (settled_start m size.height size.width pic law r c row column)))
        (λ r c r' c' row column row' column' near. between.quiet r c r' c' row column row' column' near (none (place_of size.width r' c')))

    pub ended_counts : Shows size ks' (settled m size.height size.width pic) → (((r c : ℕ) → r < size.height → c < size.width → pic r c ≡ 0 → ⊥) → t' ≡ 0) → CountsTakes size picture t'
    ended_counts ends airless = record {
      airy = λ a b row column air.
          le_trans (resting_all ks' ws' (size.width * size.height) (at_pixel (λ k. at_rest ks' ws' k ≡ true) (λ r c row' column'.
          and_from (ltb (image_of size.width ks' r c) blank) (not (get_or ws' (place_of size.width r c) false))
          (lt-ltb _ _ (small _ _ _ _ (ends r c row' column') (settled_under m size.height size.width pic r c a b row column air tt) (law.far_bound _ _) (place_below a b row column)))
          (ap not (none (place_of size.width r c))))))
          between.taken;
      airless = airless;
    }
      where
        small : (n n' far place : ℕ) → n ≡ n' → n' ≤ key_of far place → far ≤ 16777215 → place < 1048576 → n < blank
        small n n' far place e p q l = omega arith

        place_below : (a b : ℕ) → a < size.height → b < size.width → place_of size.width a b < 1048576
        place_below a b row column = omega (arith, mul-add-lt a size.width b size.height row column, mul-le size.width size.height 1024 1024 size.wide size.tall)
