use Rattle.std.proofs.Common.{◌≡◌, ℕ, ◌<◌, sym, ap, ◌∙◌, arith}
use Rattle.sheet.specs.Images.{Image}
use Rattle.erosion.specs.Grids.{held, sweep_in}
use Rattle.erosion.specs.Walks.{turn, sense_of}
use Rattle.erosion.proofs.Walks.{turn_back, turn_more}
use Rattle.erosion.proofs.Grids.{sweep_in_row, stays_more}
use Rattle.erosion.proofs.grid.Grid.sweep_row.Goals as goal
use Rattle.erosion.proofs.grid.Grid.sweep_row.Goals.{then-sweep_pixel, else-sweep_pixel}

pub loop-k-preserved : goal.loop-k-preserved
loop-k-preserved c =
    let w : ℕ = c.args.self.now.size.width in
    let k : ℕ = c.loop-k.k in
    let column : ℕ = c.turned-column.result in
    let f : Image = held c.args.self.now in
    let round : Image = sweep_in c.args.self.now c.args.direction c.args.straight in
    let on : column < w = c.turned-column.ensures.within in
    let at : turn (sense_of c.args.direction) w column ≡ k =
    turn_back (sense_of c.args.direction) w k column c.loop-k-test.true (c.turned-column.ensures.is ∙ ap (λ b. turn b w k) c.sense_of.ensures) in
    let stays = c.loop-k.invariant.2 in
    let same = sweep_in_row stays c.args.direction c.args.straight c.args.row column on (λ r d h n. c.loop-k.invariant.1 r d h (λ e. omega (arith, n e))) in
    let own = c.loop-k.invariant.1 c.args.row column on (λ _. omega arith) in (
      turn_more (λ d. held c.sweep_pixel.new.self c.args.row d ≡ round c.args.row d) (sense_of c.args.direction) w k column on at
          (λ d h l. c.sweep_pixel.ensures.others c.args.row d (omega (arith, stays.same_width)) (λ _ e. omega (arith, ap (turn (sense_of c.args.direction) w) e)) ∙ c.loop-k.invariant.0 d h l)
          (c.sweep_pixel.ensures.pixel ∙ same),
      (λ r d h n.
          c.sweep_pixel.ensures.others r d (omega (arith, stays.same_width)) (λ e q. omega (arith, n e, ap (turn (sense_of c.args.direction) w) q))
          ∙ c.loop-k.invariant.1 r d h (λ e. omega (arith, n e))),
      stays_more stays c.sweep_pixel.ensures.stays,
      elim c.if-sweep_pixel.branch [
        | then-sweep_pixel x ↦ λ e. grind arith
        | else-sweep_pixel x ↦ λ e.
            turn_more (λ d. round c.args.row d ≡ f c.args.row d) (sense_of c.args.direction) w k column on at
            (c.loop-k.invariant.3 (sym x.altered-is ∙ e))
            (sym same ∙ c.sweep_pixel.ensures.idle x.if-sweep_pixel.false ∙ own)
      ],
      elim c.if-sweep_pixel.branch [
        | then-sweep_pixel x ↦ λ _ all. c.sweep_pixel.ensures.busy x.if-sweep_pixel.true (same ∙ all column on ∙ sym own)
        | else-sweep_pixel x ↦ λ e. c.loop-k.invariant.4 (sym x.altered-is ∙ e)
      ],
    )
