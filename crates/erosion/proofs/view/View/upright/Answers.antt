use Rattle.std.proofs.Common.{arith}
use Rattle.std.proofs.lemmas.Bool.Decides.{nat_tests}
use Rattle.erosion.specs.Window.{upright_of}
use Rattle.erosion.proofs.view.View.upright.Goals as goal

pub returns : goal.returns
unfolding upright_of
returns c = grind (arith, nat_tests)
