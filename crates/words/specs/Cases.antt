-- The cases of a word, and how its bytes sort it into one.
use Rattle.std.specs.Prelude.{◌≡◌, ℕ, true, false, List, [], ◌∷◌, length, Some, ◌≢◌, slice_index}
use Rattle.std.specs.Char.{is_ascii_digit}
use Rattle.words.specs.declared.word.Word.{Word}
use Rattle.words.specs.declared.word.Word.TheVariants.{Number, Letter, Name}
use Rattle.words.specs.declared.word.Words.{Words}
use Rattle.words.specs.Parts.{three_words}

-- the part of the text that a word is
abbrev pub bytes_of : Word → List ℕ
bytes_of (Number digits) = digits.now
bytes_of (Letter byte) = byte ∷ []
bytes_of (Name bytes) = bytes.now

-- a number begins with a digit, a letter is one other byte, and a name is all else
abbrev pub Sorted : Word → Type 0
Sorted (Number digits) = is_ascii_digit (slice_index digits.now 0) ≡ true
Sorted (Letter byte) = is_ascii_digit byte ≡ false
Sorted (Name bytes) = (is_ascii_digit (slice_index bytes.now 0) ≡ false) × (length bytes.now ≢ 1)

-- the three words of some bytes
pub record ThreeOf (bytes : List ℕ) (words : Words) : Type 0 where
  pub parts : three_words bytes ≡ Some (record { first = bytes_of words.first; second = bytes_of words.second; third = bytes_of words.third })
  pub first : Sorted words.first
  pub second : Sorted words.second
  pub third : Sorted words.third
