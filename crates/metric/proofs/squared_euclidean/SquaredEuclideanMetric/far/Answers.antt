use Rattle.std.proofs.Common.{arith}
use Rattle.metric.specs.Squared.{squares_bound}
use Rattle.metric.proofs.squared_euclidean.SquaredEuclideanMetric.far.Goals as goal

pub overflow_add-result : goal.overflow_add-result
overflow_add-result c = omega (arith, squares_bound c.unsigned_abs-x.result c.unsigned_abs-y.result (omega arith) (omega arith))
