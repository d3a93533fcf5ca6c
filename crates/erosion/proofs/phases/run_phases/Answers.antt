use Rattle.std.proofs.Common.{rules, ◌≡◌, ℕ, ◌*◌, ◌≤◌, max, List, take, drop, ap, ◌∙◌, subst, mul_comm, arith}
use Rattle.std.proofs.lemmas.List.{get_or-take}
use Rattle.sheet.specs.Images.{Same, image_of}
use Rattle.erosion.specs.Memory.{past}
use Rattle.erosion.specs.Phases.{Straights}
use Rattle.erosion.specs.Rounds.{Settles}
use Rattle.erosion.proofs.FourPhases.{four_phases}
use Rattle.erosion.proofs.Grids.{at_size, stays_more, rest_at, held_at, transposed_at, phase_at}
use Rattle.erosion.proofs.phases.run_phases.Goals as goal

pub returns : goal.returns
returns g c =
    let m = g.M.Metric.model c.args.metric.now in
    let law = g.met.M.Metric.lawful c.args.metric.now in
    let size = c.args.size in
    let weights = c.straights-weights.result in
    let table : (n : ℕ) → n ≤ max size.width size.height → Straights m n (take n weights) =
    λ n p i q. get_or-take n weights i 0 q ∙ c.straights-weights.ensures.weights i (omega (arith, c.max.ensures)) in
    let north = c.settle_rows-north.ensures in
    let south = c.settle_rows-south.ensures in
    let west = c.settle_rows-west.ensures in
    let east = c.settle_rows-east.ensures in
    let begun = c.begin.ensures.stays in
    let over = c.transpose.ensures.stays in
    let after_north = stays_more over north.stays in
    let after_south = stays_more after_north south.stays in
    let back = stays_more begun c.transpose-2.ensures.stays in
    let after_west = stays_more back west.stays in
    let after_east = stays_more after_west east.stays in
    let all =
    four_phases m law c.requires.splits size.height size.width size.rows size.tall size.columns size.wide (image_of size.width c.args.picture.now) _ _ _ _ _ _ _ _ _ _ _
    (λ r d p q. held_at begun r d ∙ c.begin.ensures.image r d p q)
    (transposed_at begun over c.transpose.ensures.image)
    (phase_at over north.stays _ (north.phase m law) (table size.height (omega arith)))
    (phase_at after_north south.stays _ (south.phase m law) (table size.height (omega arith)))
    (transposed_at after_south back c.transpose-2.ensures.image)
    (phase_at back west.stays _ (west.phase m law) (table size.width (omega arith)))
    (phase_at after_west east.stays _ (east.phase m law) (table size.width (omega arith))) in
    let keys : List ℕ = c.settle_rows-east.new.self.keys.now in
    let spare : List ℕ = c.copy.new.other in
    let copied = at_size after_east (λ h w. Same h w (image_of w spare) (image_of w keys)) c.copy.ensures.image in
    let across : (a b : List ℕ) → drop (size.height * size.width) a ≡ drop (size.height * size.width) b → drop (size.width * size.height) a ≡ drop (size.width * size.height) b =
    λ a b. subst (λ (n : ℕ). drop n a ≡ drop n b) (mul_comm size.height size.width) in
    let spare_rest : (old : List ℕ) → past c.settle_rows-east.new.self.size spare ≡ past c.settle_rows-east.new.self.size old → old ≡ c.settle_rows-south.new.self.keys.now → past size spare ≡ past size c.args.spare.now =
    λ old rest e. at_size after_east (λ h w. drop (w * h) spare ≡ drop (w * h) old) rest ∙ ap (past size) e ∙ across _ _ (rest_at after_south) in
    record {
      settles =
          subst (λ (k : List ℕ). Settles m size c.args.picture.now c.args.keys.now k c.args.spare.now spare) (search (rules, after_east.lender))
          record {
            image = all.0;
            copy = λ r d p q. copied r d p q ∙ all.0 r d p q;
            rest = rest_at after_east;
            spare_rest = spare_rest _ c.copy.ensures.rest (search (rules, after_south.lender));
          };
      counts = record { phases = all.1; soon = all.2 };
    }
