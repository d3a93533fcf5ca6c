use Rattle.std.proofs.Common.{Result, ap, ◌∙◌, subst}
use Rattle.reader.specs.declared.list.Fault.{Fault}
use Rattle.reader.specs.Lists.{RunList}
use Rattle.writer.specs.Answers.{text_of}
use Rattle.runlist.specs.Answering.{AnswersTo}
use Rattle.runlist.proofs.answer.Goals as goal

pub returns-clause-runs : goal.returns-clause-runs
returns-clause-runs c = (
  _,
  subst (λ (list : Result RunList Fault). AnswersTo list c.in_ok-answers.answers.items) c.in_ok-list.ensures.list c.in_ok-answers.ensures,
  c.in_ok-answer_text.ensures ∙ ap text_of c.as_slice.ensures.value,
)
