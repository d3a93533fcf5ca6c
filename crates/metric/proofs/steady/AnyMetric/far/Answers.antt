use Rattle.std.proofs.Common.{◌≡◌, ℕ, ◌+◌, ◌-◌, ◌*◌, min, max, sym, ◌∙◌, unsigned_abs, rules}
use Rattle.metric.specs.Model.{at_offset}
use Rattle.metric.proofs.steady.AnyMetric.far.Goals as goal

pub returns : goal.returns
returns g c =
    let x : ℕ = unsigned_abs c.args.columns in
    let y : ℕ = unsigned_abs c.args.rows in
    let far : c.by_greater_and_lesser.result ≡ at_offset x y (c.STRAIGHT-2.result * max x y + (c.DIAGONAL.result - c.STRAIGHT.result) * min x y) = search rules in
    far
    ∙ (λ i. at_offset x y (c.STRAIGHT-2.ensures i * max x y + (c.DIAGONAL.ensures i - c.STRAIGHT.ensures i) * min x y))
    ∙ sym (g.S.Steady.from_weights.fars x y)
