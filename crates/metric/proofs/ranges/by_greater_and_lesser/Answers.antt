use Rattle.std.proofs.Common.{◌*◌, ◌≤◌, mul-le-mul, arith}
use Rattle.metric.proofs.ranges.by_greater_and_lesser.Goals as goal

pub overflow_add-result : goal.overflow_add-result
overflow_add-result c =
    let g : c.max.result ≤ 1023 = omega arith in
    let l : c.min.result ≤ 1023 = omega arith in
    let p : c.args.greater * c.max.result ≤ 1000 * 1023 = mul-le-mul c.requires.0 g in
    let q : c.args.lesser * c.min.result ≤ 1000 * 1023 = mul-le-mul c.requires.1 l in
    omega arith
