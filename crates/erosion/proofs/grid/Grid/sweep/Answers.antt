use Rattle.std.proofs.Common.{◌≡◌, ℕ, ◌<◌, sym, ap, ◌∙◌, arith}
use Rattle.sheet.specs.Images.{Image}
use Rattle.erosion.specs.Grids.{held, sweep_in}
use Rattle.erosion.specs.Walks.{turn, sense_of}
use Rattle.erosion.proofs.Walks.{turn_back, turn_more}
use Rattle.erosion.proofs.Grids.{sweep_in_rows, stays_more}
use Rattle.erosion.proofs.grid.Grid.sweep.Goals as goal
use Rattle.erosion.proofs.grid.Grid.sweep.Goals.{then-sweep_row, else-sweep_row}

pub loop-k-preserved : goal.loop-k-preserved
loop-k-preserved c =
    let w : ℕ = c.args.self.now.size.width in
    let h : ℕ = c.args.self.now.size.height in
    let k : ℕ = c.loop-k.k in
    let row : ℕ = c.turned-row.result in
    let f : Image = held c.args.self.now in
    let round : Image = sweep_in c.args.self.now c.args.direction c.args.straight in
    let on : row < h = c.turned-row.ensures.within in
    let at : turn (sense_of c.args.direction) h row ≡ k =
    turn_back (sense_of c.args.direction) h k row c.loop-k-test.true (c.turned-row.ensures.is ∙ ap (λ b. turn b h k) c.sense_of.ensures) in
    let stays = c.loop-k.invariant.2 in
    let own : (d : ℕ) → d < w → held c.loop-k.self row d ≡ f row d = λ d p. c.loop-k.invariant.1 row d p (omega arith) in
    let same : (d : ℕ) → d < w → sweep_in c.loop-k.self c.args.direction c.args.straight row d ≡ round row d =
    λ d p. sweep_in_rows stays c.args.direction c.args.straight row d on p (λ r e q l. c.loop-k.invariant.1 r e q (omega arith)) in (
      turn_more (λ r. (d : ℕ) → d < w → held c.sweep_row.new.self r d ≡ round r d) (sense_of c.args.direction) h k row on at
          (λ r p l d q. c.sweep_row.ensures.others r d (omega (arith, stays.same_width)) (λ e. omega (arith, ap (turn (sense_of c.args.direction) h) e)) ∙ c.loop-k.invariant.0 r p l d q)
          (λ d q. c.sweep_row.ensures.line d (omega (arith, stays.same_width)) ∙ same d q),
      (λ r d q l.
          c.sweep_row.ensures.others r d (omega (arith, stays.same_width)) (λ e. omega (arith, ap (turn (sense_of c.args.direction) h) e))
          ∙ c.loop-k.invariant.1 r d q (omega arith)),
      stays_more stays c.sweep_row.ensures.stays,
      elim c.if-sweep_row.branch [
        | then-sweep_row x ↦ λ e. grind arith
        | else-sweep_row x ↦ λ e.
            turn_more (λ r. (d : ℕ) → d < w → round r d ≡ f r d) (sense_of c.args.direction) h k row on at
            (c.loop-k.invariant.3 (sym x.altered-is ∙ e))
            (λ d q. sym (same d q) ∙ c.sweep_row.ensures.idle x.if-sweep_row.false d (omega (arith, stays.same_width)) ∙ own d q)
      ],
      elim c.if-sweep_row.branch [
        | then-sweep_row x ↦ λ _ all.
            c.sweep_row.ensures.busy x.if-sweep_row.true
            (λ d q. let p : d < w = omega (arith, stays.same_width) in same d p ∙ all row d on p ∙ sym (own d p))
        | else-sweep_row x ↦ λ e. c.loop-k.invariant.4 (sym x.altered-is ∙ e)
      ],
    )
