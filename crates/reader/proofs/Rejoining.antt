-- The lines of a text make it up.
use Rattle.std.proofs.Common.{◌≡◌, ℕ, List, [], ◌∷◌, ◌++◌, refl, ap, ◌∙◌}
use Rattle.std.specs.List.{flat_map}
use Rattle.std.proofs.lemmas.List.{append_assoc, append-nil}
use Rattle.words.specs.Parts.{parted}
use Rattle.words.proofs.Parting.{joined_by, rejoined}
use Rattle.reader.specs.Lists.{last_line, lines_in}
use Rattle.reader.specs.Laws.{with_end, LinesRejoin}

last_rejoins : (part : List ℕ) → flat_map with_end (last_line part) ≡ part
last_rejoins [] = refl
last_rejoins (b ∷ bs) = append-nil (b ∷ bs)

parts_rejoin : (parts : List (List ℕ)) → flat_map with_end (lines_in parts) ≡ joined_by 10 parts
parts_rejoin [] = refl
parts_rejoin (part ∷ []) = last_rejoins part
parts_rejoin (part ∷ next ∷ parts) = ap (λ l. (part ++ 10 ∷ []) ++ l) (parts_rejoin (next ∷ parts)) ∙ append_assoc part (10 ∷ []) (joined_by 10 (next ∷ parts))

pub lines_rejoin : LinesRejoin
lines_rejoin text = parts_rejoin (parted 10 text) ∙ rejoined 10 text
