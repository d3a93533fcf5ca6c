-- Grids that stay in their memory.
use Rattle.std.proofs.Common.{◌≡◌, ℕ, Bool, true, false, ◌*◌, List, drop, ◌<◌, ◌≤◌, sym, refl, ◌∙◌, subst, subst₂, arith}
use Rattle.std.proofs.Math.Path.{subst₃}
use Rattle.sheet.specs.declared.direction.Direction.{Direction}
use Rattle.sheet.specs.Images.{Same, image_of}
use Rattle.metric.specs.Model.{Model}
use Rattle.transform.specs.Directional.{swept, sweeps, Keyed}
use Rattle.transform.specs.Erosion.{FirstIdle, eroded}
use Rattle.erosion.specs.declared.view.View.{View}
use Rattle.erosion.specs.declared.grid.Grid.{Grid}
use Rattle.erosion.specs.Memory.{past}
use Rattle.erosion.specs.Grids.{held, sweep_in, Stays, Alike}
use Rattle.transform.specs.Raster.{Scan}
use Rattle.erosion.specs.declared.raster.Sense.{Sense}
use Rattle.erosion.specs.Rounds.{before_in, Scanned, Rounded}
use Rattle.erosion.specs.Phases.{Straights, PhaseOf, sweeps_in}
use Rattle.erosion.specs.Walks.{turn, sense_of}
use Rattle.erosion.proofs.Walks.{swept_in_row, swept_in_rows}

pub stays_self : {a : Grid} → Stays a a
stays_self = record { same_width = refl; same_height = refl; lender = refl; rest = refl }

pub stays_more : {a b c : Grid} → Stays a b → Stays b c → Stays a c
stays_more first then =
    record {
      same_width = then.same_width ∙ first.same_width;
      same_height = then.same_height ∙ first.same_height;
      lender = then.lender ∙ first.lender;
      rest = then.rest ∙ first.rest;
    }

-- what holds at the size of one holds at that of the other
pub at_size : {a b : Grid} → Stays a b → (P : ℕ → ℕ → Type 0) → P b.size.height b.size.width → P a.size.height a.size.width
at_size stays P = subst₂ P stays.same_height stays.same_width

module _ {a b : Grid} (stays : Stays a b) (d : Direction) (v : ℕ) (r c : ℕ) where
  -- the round of b at its size is that of a's size
  resized : sweep_in b d v r c ≡ swept d a.size.height a.size.width v (held b) r c
  resized k = swept d (stays.same_height k) (stays.same_width k) v (held b) r c

  pub sweep_in_row : c < a.size.width → ((r' c' : ℕ) → c' < a.size.width → (r' ≡ r → turn (sense_of d) a.size.width c ≤ turn (sense_of d) a.size.width c') → held b r' c' ≡ held a r' c') → sweep_in b d v r c ≡ sweep_in a d v r c
  sweep_in_row on same = resized ∙ swept_in_row d a.size.height a.size.width v (held b) (held a) r c on same

  pub sweep_in_rows : r < a.size.height → c < a.size.width → ((r' c' : ℕ) → c' < a.size.width → turn (sense_of d) a.size.height r ≤ turn (sense_of d) a.size.height r' → held b r' c' ≡ held a r' c') → sweep_in b d v r c ≡ sweep_in a d v r c
  sweep_in_rows row on same = resized ∙ swept_in_rows d a.size.height a.size.width v (held b) (held a) r c row on same

-- what lies past the sheet
pub rest_at : {a b : Grid} → Stays a b → past a.size b.keys.now ≡ past a.size a.keys.now
rest_at {a = a} {b = b} stays = at_size stays (λ h w. drop (w * h) b.keys.now ≡ past a.size a.keys.now) stays.rest

-- what it holds, at the size of the other
pub held_at : {a b : Grid} → Stays a b → (r c : ℕ) → image_of a.size.width b.keys.now r c ≡ held b r c
held_at {b = b} stays r c k = image_of (sym stays.same_width k) b.keys.now r c

-- b written into q with rows and columns exchanged
pub transposed_at : {a b p q : Grid} → Stays a b → Stays p q → ((r c : ℕ) → r < b.size.height → c < b.size.width → held q c r ≡ held b r c) → (r c : ℕ) → r < a.size.height → c < a.size.width → image_of p.size.width q.keys.now c r ≡ image_of a.size.width b.keys.now r c
transposed_at from to image r c row column = held_at to c r ∙ image r c (omega (arith, from.same_height)) (omega (arith, from.same_width)) ∙ sym (held_at from r c)

-- a round from a view of b
pub rounded_at : {a b : Grid} {view : View} → Stays a b → Alike view b → view.keys.now ≡ b.keys.now → {s d : ℕ} {spare spare' : List ℕ} {altered : Bool} → Rounded view.size s d view.keys.now spare spare' altered → Rounded a.size s d b.keys.now spare spare' altered
rounded_at stays alike same_keys {s = s} {d = d} {spare = spare} {spare' = spare'} {altered = altered} round =
    let high = alike.height ∙ stays.same_height in
    let wide = alike.width ∙ stays.same_width in
    record {
      image = subst₃ (λ h w keys. Same h w (image_of w spare') (eroded h w s d (image_of w keys))) high wide same_keys round.image;
      rest = subst₂ (λ h w. drop (w * h) spare' ≡ drop (w * h) spare) high wide round.rest;
      idle = subst₃ (λ h w keys. altered ≡ false → Same h w (image_of w spare') (image_of w keys)) high wide same_keys round.idle;
      busy = subst₃ (λ h w keys. altered ≡ true → Same h w (image_of w spare') (image_of w keys) → ⊥) high wide same_keys round.busy;
    }

-- a scan of b
pub scanned_at : {a b : Grid} → Stays a b → {sense : Sense} {s d : ℕ} {keys : List ℕ} → Scanned b.size sense s d b.keys.now keys → Scanned a.size sense s d b.keys.now keys
scanned_at {b = b} stays {sense = sense} {s = s} {d = d} {keys = keys} scan =
    record {
      image = at_size stays (λ h w. Scan (before_in sense) h w s d (image_of w b.keys.now) (image_of w keys)) scan.image;
      rest = at_size stays (λ h w. drop (w * h) keys ≡ drop (w * h) b.keys.now) scan.rest;
    }

-- a phase of b, which becomes c, at the size of a
pub phase_at : {a b c : Grid} → Stays a b → Stays b c → {m : Model} {d : Direction} {n : ℕ} (weights : List ℕ) → (Straights m b.size.width weights → Keyed b.size.height b.size.width (held b) → PhaseOf m d b n c) → Straights m a.size.width weights → Keyed a.size.height a.size.width (image_of a.size.width b.keys.now) → FirstIdle a.size.height a.size.width (sweeps m d a.size.height a.size.width (image_of a.size.width b.keys.now)) n × Same a.size.height a.size.width (image_of a.size.width c.keys.now) (sweeps m d a.size.height a.size.width (image_of a.size.width b.keys.now) n)
phase_at {b = b} {c = c} stays then {m = m} {d = d} {n = n} weights phase =
    at_size stays (λ h w. Straights m w weights → Keyed h w (image_of w b.keys.now) → FirstIdle h w (sweeps m d h w (image_of w b.keys.now)) n × Same h w (image_of w c.keys.now) (sweeps m d h w (image_of w b.keys.now) n))
    (λ table keyed.
    let p = phase table keyed in (
      p.first,
      subst (λ (w : ℕ). Same b.size.height b.size.width (image_of w c.keys.now) (sweeps_in m d b n)) then.same_width p.image,
    ))
