use Rattle.std.proofs.Common.{◌≡◌, ℕ, ◌+◌, ◌<◌, sym, ◌∙◌, subst, arith}
use Rattle.sheet.specs.Images.{Image}
use Rattle.transform.specs.Directional.{sweeps, Keyed}
use Rattle.transform.proofs.Directional.{row_stays_idle}
use Rattle.erosion.specs.Grids.{held}
use Rattle.erosion.specs.Phases.{Straights, RowPhase, sweeps_in}
use Rattle.erosion.proofs.RowPhases.{RowsDone, row_phase_same, sweeps_along, rows_more, rows_all, rows_keyed}
use Rattle.erosion.proofs.Grids.{at_size, stays_more}
use Rattle.erosion.proofs.grid.Grid.settle_rows.Goals as goal

pub loop-row-preserved : goal.loop-row-preserved
loop-row-preserved c =
    let h : ℕ = c.args.self.now.size.height in
    let w : ℕ = c.args.self.now.size.width in
    let f : Image = held c.args.self.now in
    let g : Image = held c.loop-row.self in
    let row : ℕ = c.loop-row.row in
    let stays = c.loop-row.invariant.2 in
    let others : (r d : ℕ) → d < w → (r ≡ row → ⊥) → held c.settle_row.new.self r d ≡ g r d = λ r d q. c.settle_row.ensures.others r d (omega (arith, stays.same_width)) in (
      (λ m law table keyed.
          let done = c.loop-row.invariant.0 m law table keyed in
          let phase =
          row_phase_same w (sweeps m c.args.direction h w g) (sweeps m c.args.direction h w f) row _ _
          (sweeps_along m c.args.direction h w g f row c.requires.along (λ d q. c.loop-row.invariant.1 row d (omega arith) q))
          (at_size stays (λ h w. Straights m w c.args.weights.now → Keyed h w g → RowPhase w (sweeps m c.args.direction h w g) row c.settle_row.result (held c.settle_row.new.self)) (c.settle_row.ensures.phase m law)
          table (rows_keyed m c.args.direction h w row c.loop-row.most f g keyed done c.loop-row.invariant.1)) in
          subst (λ (n : ℕ). RowsDone w (sweeps m c.args.direction h w f) (row + 1) n (held c.settle_row.new.self)) (sym c.max-most.ensures)
          (rows_more w (sweeps m c.args.direction h w f) (λ r i j. row_stays_idle m c.args.direction h w f r i j law c.requires.along) row c.loop-row.most c.settle_row.result g _ (omega (arith, stays.same_width, c.settle_row.ensures.few)) done phase others)),
      (λ r d p q. others r d q (λ e. omega arith) ∙ c.loop-row.invariant.1 r d (omega arith) q),
      stays_more stays c.settle_row.ensures.stays,
      omega (arith, stays.same_width, c.settle_row.ensures.few, c.max-most.ensures, c.loop-row.invariant.3),
    )

pub returns : goal.returns
returns c =
    let s = c.args.self.now in
    let end : c.loop-row.row ≡ s.size.height = omega arith in
    record {
      phase = λ m law table keyed.
          let done = subst (λ (n : ℕ). RowsDone s.size.width (sweeps_in m c.args.direction s) n c.loop-row.most (held c.loop-row.self)) end (c.loop-row.invariant.0 m law table keyed) in
          record {
            first = rows_all s.size.width (sweeps_in m c.args.direction s) (λ r i j. row_stays_idle m c.args.direction s.size.height s.size.width (held s) r i j law c.requires.along) s.size.height c.loop-row.most _ s.size.rows done;
            image = λ r d p q. done.line r d p q;
          };
      stays = c.loop-row.invariant.2;
      few = c.loop-row.invariant.3;
    }
