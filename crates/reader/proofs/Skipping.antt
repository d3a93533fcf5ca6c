-- Lines of which the first of all have been taken.
use Rattle.std.proofs.Common.{◌≡◌, ℕ, ◌+◌, ◌⊎◌, List, [], ◌∷◌, Some, None, Ok, Err, Option, Result, drop, sym, refl, ap, ◌∙◌, inl, inr, arith}
use Rattle.std.proofs.lemmas.List.{drop-drop}
use Rattle.reader.specs.declared.lines.Line.{Line as Whole}
use Rattle.reader.specs.declared.lines.Lines.{Lines}
use Rattle.reader.specs.declared.list.Fault.{Fault}
use Rattle.reader.specs.Lists.{Line, ended, entries_from}
use Rattle.reader.specs.Reading.{lines_left, Steps}

-- n of all lines have been taken, and the next has the number that follows unless there is none
abbrev pub Skipped : List Line → ℕ → Lines → Type 0
Skipped all n lines = (lines_left lines ≡ drop n all) × ((lines.number ≡ n + 1) ⊎ (lines_left lines ≡ []))

next_of : (all : List Line) (n : ℕ) (line : Line) (after : List Line) → line ∷ after ≡ drop n all → after ≡ drop (n + 1) all
next_of all n line after e = ap (drop 1) e ∙ drop-drop 1 n all

-- past the last of them nothing is left
at_end : (all : List Line) (n : ℕ) (r s : Lines) → drop 1 (lines_left r) ≡ [] → lines_left s ≡ [] → Skipped all n r → Skipped all (n + 1) s
at_end all n r s last gone at = (gone ∙ sym (sym (drop-drop 1 n all) ∙ ap (drop 1) (sym at.0) ∙ last), inr gone)

pub skip_more : (all : List Line) (n : ℕ) (r s : Lines) (x : Option (Result Whole Fault)) → Steps r x s → Skipped all n r → Skipped all (n + 1) s
skip_more all n r s None step at = at_end all n r s (ap (drop 1) step.0) (ap lines_left step.1 ∙ step.0) at
skip_more all n r s (Some (Err due)) step at = at_end all n r s (ap (drop 1) step.1) step.2 at
skip_more all n r s (Some (Ok line)) step (is, inl number) = (next_of all n _ _ (sym step.0 ∙ is), inl (omega (arith, step.2)))
skip_more all n r s (Some (Ok line)) step (is, inr gone) = let none : ◌≡◌ {A = List Line} (ended line.bytes.now ∷ lines_left s) [] = sym step.0 ∙ gone in cc

pub skipped : (all : List Line) (n : ℕ) (r : Lines) → n ≡ 3 → Skipped all n r → entries_from r.number (lines_left r) ≡ entries_from 4 (drop 3 all)
skipped all n r three (left, inl at) =
    let number : r.number ≡ 4 = omega (arith, at) in rw (number, left, three) refl
skipped all n r three (left, inr gone) =
    let none : drop 3 all ≡ [] = sym (left ∙ ap (λ k. drop k all) three) ∙ gone in rw (gone, none) refl
