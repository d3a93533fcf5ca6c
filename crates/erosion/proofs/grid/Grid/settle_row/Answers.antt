use Rattle.std.proofs.Common.{◌≡◌, ℕ, zero, suc, ◌<◌, ◌≤◌, refl, ◌∙◌, slice_index, arith}
use Rattle.transform.specs.Directional.{swept, sweeps}
use Rattle.transform.proofs.Directional.{row_ends}
use Rattle.erosion.specs.Grids.{held}
use Rattle.erosion.proofs.RowPhases.{row_more, row_last}
use Rattle.erosion.proofs.Grids.{at_size, stays_self, stays_more}
use Rattle.erosion.proofs.grid.Grid.settle_row.Goals as goal

-- no round can come after round w
late : {P : ℕ → Type 0} (w : ℕ) → 1 ≤ w → w ≤ 1024 → (k : ℕ) → w ≤ k → ((j : ℕ) → j < k → P j → ⊥) → ((j : ℕ) → w ≤ suc j → j < 1024 → P j) → ⊥
late zero some fits k all busy ends = omega arith
late (suc n) some fits k all busy ends = busy n (omega arith) (ends n (omega arith) (omega arith))

pub loop-k-init : goal.loop-k-init
unfolding sweeps
loop-k-init c = ((λ m law table. record { line = λ d h. refl; busy = λ j p. absurd (omega arith) }), (λ r d h n. refl), stays_self)

pub loop-k-preserved : goal.loop-k-preserved
loop-k-preserved c =
    let s = c.args.self.now in
    let stays = c.loop-k.invariant.2 in (
      (λ m law table.
          row_more m c.args.direction c.requires.along s.size.height s.size.width (held s) (held c.loop-k.self) (held c.sweep_row.new.self) c.args.row c.loop-k.k (slice_index c.args.weights.now c.loop-k.k)
          (c.loop-k.invariant.0 m law table) (table c.loop-k.k (omega (arith, c.requires.table, c.loop-k-test.true)))
          (at_size stays (λ h w. (d : ℕ) → d < w → held c.sweep_row.new.self c.args.row d ≡ swept c.args.direction h w (slice_index c.args.weights.now c.loop-k.k) (held c.loop-k.self) c.args.row d) c.sweep_row.ensures.line)
          (at_size stays (λ h w. ((d : ℕ) → d < w → swept c.args.direction h w (slice_index c.args.weights.now c.loop-k.k) (held c.loop-k.self) c.args.row d ≡ held c.loop-k.self c.args.row d) → ⊥) (c.sweep_row.ensures.busy c.if-not-sweep_row.false))),
      (λ r d h n. c.sweep_row.ensures.others r d (omega (arith, stays.same_width)) n ∙ c.loop-k.invariant.1 r d h n),
      stays_more stays c.sweep_row.ensures.stays,
    )

pub returns-then-not-sweep_row : goal.returns-then-not-sweep_row
returns-then-not-sweep_row c =
    let s = c.args.self.now in
    let stays = c.loop-k.invariant.2 in
    record {
      phase = λ m law table keyed.
          row_last m c.args.direction c.requires.along s.size.height s.size.width (held s) (held c.loop-k.self) (held c.sweep_row.new.self) c.args.row c.loop-k.k (slice_index c.args.weights.now c.loop-k.k)
          (c.loop-k.invariant.0 m law table) (table c.loop-k.k (omega (arith, c.requires.table, c.loop-k-test.true)))
          (at_size stays (λ h w. (d : ℕ) → d < w → held c.sweep_row.new.self c.args.row d ≡ swept c.args.direction h w (slice_index c.args.weights.now c.loop-k.k) (held c.loop-k.self) c.args.row d) c.sweep_row.ensures.line)
          (at_size stays (λ h w. (d : ℕ) → d < w → swept c.args.direction h w (slice_index c.args.weights.now c.loop-k.k) (held c.loop-k.self) c.args.row d ≡ held c.loop-k.self c.args.row d) (c.sweep_row.ensures.idle c.if-not-sweep_row.true));
      others = λ r d h n. c.sweep_row.ensures.others r d (omega (arith, stays.same_width)) n ∙ c.loop-k.invariant.1 r d h n;
      stays = stays_more stays c.sweep_row.ensures.stays;
      few = omega arith;
    }

pub returns : goal.returns
returns c =
    let s = c.args.self.now in
    record {
      phase = λ m law table keyed.
          absurd
          (late s.size.width s.size.columns s.size.wide c.loop-k.k (omega (arith, c.requires.table, c.loop-k-test.false))
          (λ j p. (c.loop-k.invariant.0 m law table).busy j p)
          (λ j all top. row_ends m c.args.direction s.size.height s.size.width (held s) c.args.row j law c.requires.along keyed c.requires.on all top));
      others = c.loop-k.invariant.1;
      stays = c.loop-k.invariant.2;
      few = omega (arith, c.loop-k.invariant.2.same_width);
    }
