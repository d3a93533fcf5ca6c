-- The least key over the air at most i rings away, and over all air.
use Rattle.std.proofs.Common.{◌≡◌, ℕ, suc, ◌<◌, ◌≤◌, max, cond, eqb, leb, ◌∙◌, subst, le_trans, le_antisymm, arith}
use Rattle.std.proofs.lemmas.Bool.{cond-true, cond_both, eq-eqb, eqb-true, le-leb, leb-true}
use Rattle.sheet.specs.Pixels.{place_of, apart, ring}
use Rattle.sheet.specs.Keys.{blank, key_of}
use Rattle.sheet.specs.Images.{Image, least_on}
use Rattle.metric.specs.Model.{Model}
use Rattle.transform.specs.Settled.{air_key, settled, ringed}
use Rattle.transform.proofs.Least.{least_on_le, least_on_blank, le_least_on}
use Rattle.transform.proofs.Offsets.{apart_below}

-- n is at most the key that r, c has of each air pixel of which P holds
abbrev pub Under : Model → ℕ → ℕ → Image → (ℕ → ℕ → Type 0) → ℕ → ℕ → ℕ → Type 0
Under m h w picture P r c n = (a b : ℕ) → a < h → b < w → picture a b ≡ 0 → P a b → n ≤ key_of (m.far (apart c b) (apart r a)) (place_of w a b)

module _ (m : Model) (h w : ℕ) (picture : Image) where
  air_key_air : (r c a b : ℕ) → picture a b ≡ 0 → air_key m w picture r c a b ≡ key_of (m.far (apart c b) (apart r a)) (place_of w a b)
  unfolding air_key
  air_key_air r c a b air = cond-true _ _ _ (eq-eqb _ _ air)

  le_air_key : (r c a b n : ℕ) → n ≤ blank → (picture a b ≡ 0 → n ≤ key_of (m.far (apart c b) (apart r a)) (place_of w a b)) → n ≤ air_key m w picture r c a b
  unfolding air_key
  le_air_key r c a b n small under = cond_both (eqb (picture a b) 0) _ blank (λ (x : ℕ). n ≤ x) (λ e. under (eqb-true _ _ e)) (λ e. small)

  pub settled_under : (r c : ℕ) → Under m h w picture (λ a b. Unit {0}) r c (settled m h w picture r c)
  unfolding settled
  settled_under r c a b row column air _ =
      subst (λ (x : ℕ). least_on h w (air_key m w picture r c) ≤ x) (air_key_air r c a b air) (least_on_le h w (air_key m w picture r c) a b row column)

  pub le_settled : (r c n : ℕ) → n ≤ blank → Under m h w picture (λ a b. Unit {0}) r c n → n ≤ settled m h w picture r c
  unfolding settled
  le_settled r c n small under =
      le_least_on h w (air_key m w picture r c) n small (λ a b row column. le_air_key r c a b n small (λ air. under a b row column air tt))

  pub settled_blank : (r c : ℕ) → settled m h w picture r c ≤ blank
  unfolding settled
  settled_blank r c = least_on_blank h w (air_key m w picture r c)

  pub ringed_under : (i r c : ℕ) → Under m h w picture (λ a b. ring r c a b ≤ i) r c (ringed m h w picture i r c)
  unfolding ringed
  ringed_under i r c a b row column air near =
      let f : Image = λ a b. cond (leb (ring r c a b) i) (air_key m w picture r c a b) blank in
      subst (λ (x : ℕ). least_on h w f ≤ x) (cond-true _ _ _ (le-leb _ _ near) ∙ air_key_air r c a b air) (least_on_le h w f a b row column)

  pub le_ringed : (i r c n : ℕ) → n ≤ blank → Under m h w picture (λ a b. ring r c a b ≤ i) r c n → n ≤ ringed m h w picture i r c
  unfolding ringed
  le_ringed i r c n small under =
      let f : Image = λ a b. cond (leb (ring r c a b) i) (air_key m w picture r c a b) blank in
      le_least_on h w f n small (λ a b row column.
      cond_both (leb (ring r c a b) i) _ blank (λ (x : ℕ). n ≤ x)
      (λ e. le_air_key r c a b n small (λ air. under a b row column air (leb-true _ _ e)))
      (λ e. small))

  pub ringed_blank : (i r c : ℕ) → ringed m h w picture i r c ≤ blank
  unfolding ringed
  ringed_blank i r c = least_on_blank h w (λ a b. cond (leb (ring r c a b) i) (air_key m w picture r c a b) blank)

  -- more rings, a lesser key
  pub ringed_falls : (i j r c : ℕ) → i ≤ j → ringed m h w picture j r c ≤ ringed m h w picture i r c
  ringed_falls i j r c le =
      le_ringed i r c _ (ringed_blank j r c) (λ a b row column air near. ringed_under j r c a b row column air (le_trans near le))

  pub settled_le_ringed : (i r c : ℕ) → settled m h w picture r c ≤ ringed m h w picture i r c
  settled_le_ringed i r c =
      le_ringed i r c _ (settled_blank r c) (λ a b row column air near. settled_under r c a b row column air tt)

  -- so many rings take in the whole sheet
  pub ringed_all : (i r c : ℕ) → max w h ≤ suc i → r < h → c < w → ringed m h w picture i r c ≡ settled m h w picture r c
  unfolding ring
  ringed_all i r c wide row column =
      le_antisymm
      (le_settled r c _ (ringed_blank i r c) (λ a b row' column' air _. ringed_under i r c a b row' column' air (go (apart c b) (apart r a) (apart_below w c b column column') (apart_below h r a row row') wide)))
      (settled_le_ringed i r c)
    where
      go : (x y : ℕ) → suc x ≤ w → suc y ≤ h → max w h ≤ suc i → max x y ≤ i
      go x y p q k = omega arith
