-- One more byte of a picture, one more line of its drawing, and one more number at random.
use Rattle.std.proofs.Common.{◌≡◌, ℕ, ◌+◌, ◌*◌, List, [], ◌∷◌, ◌++◌, refl, add-one, arith}
use Rattle.std.proofs.lemmas.Grind.{common_steps}
use Rattle.pictures.specs.Bytes.{HasBytes, line_of, lines_of}
use Rattle.pictures.specs.Numbers.{next_state, states}

pub pushed : (bytes : List ℕ) (n b : ℕ) (byte : ℕ → ℕ) → HasBytes bytes n byte → b ≡ byte n → HasBytes (bytes ++ b ∷ []) (n + 1) byte
pushed bytes n b byte h e = grind (arith, common_steps)

pub none_yet : (s : ℕ) → states 0 s ≡ s
unfolding states
none_yet s = refl

pub one_more : (n s : ℕ) → states (n + 1) s ≡ next_state (states n s)
unfolding states
one_more n s = rw add-one refl

pub no_line : (w : ℕ) (bytes : List ℕ) → lines_of w bytes 0 ≡ []
unfolding lines_of
no_line w bytes = refl

pub one_more_line : (w : ℕ) (bytes : List ℕ) (n : ℕ) → lines_of w bytes (n + 1) ≡ lines_of w bytes n ++ line_of w bytes (2 * n) ++ 10 ∷ []
unfolding lines_of
one_more_line w bytes n = rw add-one refl
