-- The text of a reply.
use Rattle.std.specs.Prelude.{ℕ, Bool, List, [], ◌∷◌, is_ok, codes}
use Rattle.writer.specs.Answers.{text_of}
use Rattle.reader.specs.Lists.{list_of}
use Rattle.runlist.specs.declared.error.Error.{Error}
use Rattle.runlist.specs.declared.error.Error.TheVariants.{Refused, OutOfMemory}
use Rattle.runlist.specs.Answering.{fault_answer}

-- what an error prints: a refused text is answered with its fault alone
abbrev pub error_text : Error → List ℕ
error_text (Refused due) = text_of (fault_answer due ∷ [])
error_text OutOfMemory = codes "memory allocation failed"

-- whether a text is a run list
abbrev pub accepts : List ℕ → Bool
accepts text = is_ok (list_of text)
