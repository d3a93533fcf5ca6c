use Rattle.std.proofs.Common.{rules, ◌≡◌, ◌∙◌, sym, arith}
use Rattle.words.proofs.Digits.{no_number, read}
use Rattle.words.proofs.word.number_of.Goals as goal

pub returns-in_err-ok : goal.returns-in_err-ok
returns-in_err-ok c = c.from_residual.ensures ∙ sym (no_number c.args.word.now (search rules))

pub returns : goal.returns
returns c =
    let same : c.in_ok-ok.field-0.now ≡ c.args.word.now = search rules in
    c.ok-2.ensures.value ∙ read c.args.word.now c.parse.result c.requires (omega arith) (rw same at c.parse.ensures.value.0)
