-- The format of the answer to a run list.
use Rattle.std.specs.Prelude.{ℕ, List, [], ◌∷◌, ◌++◌, Some, None, Ok, Err, codes, decimal, Option, Result}
use Rattle.std.specs.List.{flat_map}
use Rattle.sheet.specs.declared.refusal.Refusal.{Refusal}
use Rattle.sheet.specs.Refusals.{number_of}
use Rattle.writer.specs.declared.answer.Answer.{Answer}
use Rattle.writer.specs.declared.answer.Figures.{Figures}

-- words with commas between them
abbrev pub with_commas : List (List ℕ) → List ℕ
with_commas [] = []
with_commas (word ∷ []) = word
with_commas (word ∷ next ∷ words) = word ++ 44 ∷ with_commas (next ∷ words)

-- the answer, 0 or the refusal, and the distance, row and column
abbrev pub words_of : Result (Option Figures) Refusal → List (List ℕ)
words_of (Ok (Some figures)) = codes "0" ∷ decimal figures.distance ∷ decimal figures.row ∷ decimal figures.column ∷ []
words_of (Ok None) = codes "0" ∷ codes "-" ∷ codes "-" ∷ codes "-" ∷ []
words_of (Err refusal) = decimal (number_of refusal) ∷ codes "0" ∷ codes "0" ∷ codes "0" ∷ []

-- the words of one answer, with the number of its call's line before them
abbrev pub answer_words : Answer → List ℕ
answer_words answer = with_commas (decimal answer.line ∷ words_of answer.outcome)

-- every line ends with byte 10
abbrev pub ended : List ℕ → List ℕ
ended line = line ++ 10 ∷ []

-- the whole text: a line of names, and a line for each answer
abbrev pub text_of : List Answer → List ℕ
text_of answers = ended (codes "line,answer,distance,row,column") ++ flat_map (λ answer. ended (answer_words answer)) answers
