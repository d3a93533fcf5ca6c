-- A step from line to line.
use Rattle.std.proofs.Common.{◌≡◌, ℕ, ◌<◌, List, [], ◌∷◌, length, sym, ap, ◌∙◌, arith}
use Rattle.words.specs.Parts.{parted}
use Rattle.words.proofs.Parting.{some_part}
use Rattle.reader.specs.Lists.{ended, unended, lines_in, lines_of}

-- a text that has the byte 10
pub first_line : (s a rest : List ℕ) → parted 10 s ≡ a ∷ parted 10 rest → lines_of s ≡ ended a ∷ lines_of rest
first_line s a rest e =
    let z = some_part 10 rest in
    ap lines_in (e ∙ ap (λ ps. a ∷ ps) z.2) ∙ ap (λ ps. ended a ∷ lines_in ps) (sym z.2)

-- one that has none
pub only_line : (s : List ℕ) → 0 < length s → parted 10 s ≡ s ∷ [] → lines_of s ≡ unended s ∷ []
only_line [] h e = absurd (omega arith)
only_line (b ∷ s) h e = ap lines_in e
