use Rattle.std.proofs.Common.{sym, ◌∙◌}
use Rattle.std.proofs.lemmas.List.{take_rest}
use Rattle.words.proofs.Parting.{parts_nowhere, parts_at}
use Rattle.words.proofs.parts.cut.Goals as goal

pub returns-in_err-i : goal.returns-in_err-i
returns-in_err-i c = rw c.from_residual.ensures (parts_nowhere c.args.at c.args.bytes.now (sym c.position_of.ensures ∙ c.in_err-i.was))

pub returns : goal.returns
returns c =
    rw take_rest (parts_at c.args.at c.args.bytes.now c.in_ok-i.i (sym c.position_of.ensures ∙ c.in_ok-i.was))
