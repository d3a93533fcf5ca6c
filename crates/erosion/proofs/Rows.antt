-- A place has one row and one column.
use Rattle.std.proofs.Common.{◌≡◌, ℕ, ◌/◌, ◌%◌, ◌<◌, sym, ap, ◌∙◌}
use Rattle.std.proofs.lemmas.Nat.{div-mul-add, mod-mul-add}
use Rattle.sheet.specs.Pixels.{place_of}

pub same_row : (r c q b w : ℕ) → c < w → b < w → place_of w r c ≡ place_of w q b → r ≡ q
same_row r c q b w h k e = sym (div-mul-add r w c h) ∙ ap (λ p. p / w) e ∙ div-mul-add q w b k

pub same_column : (r c q b w : ℕ) → c < w → b < w → place_of w r c ≡ place_of w q b → c ≡ b
same_column r c q b w h k e = sym (mod-mul-add r w c h) ∙ ap (λ p. p % w) e ∙ mod-mul-add q w b k
