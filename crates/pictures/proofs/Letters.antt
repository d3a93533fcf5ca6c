-- Letters are text of one byte each.
use Rattle.std.proofs.Common.{◌≡◌, ℕ, List, [], ◌∷◌, map, arith}
use Rattle.std.specs.Str.{IsAscii}
use Rattle.std.proofs.Math.Utf8.{encodes}
use Rattle.std.proofs.lemmas.Bool.Decides.{nat_tests}
use Rattle.std.proofs.lemmas.Str.Ascii.{encodes-IsAscii, IsAscii-nil, IsAscii-cons}
use Rattle.pictures.specs.Bytes.{letter}

ascii : (bytes : List ℕ) → IsAscii (map letter bytes)
ascii [] = IsAscii-nil
ascii (b ∷ bytes) = IsAscii-cons (letter b) (map letter bytes) (grind (arith, nat_tests)) (ascii bytes)

pub encoded : (bytes : List ℕ) → encodes (map letter bytes) ≡ map letter bytes
encoded bytes = encodes-IsAscii (map letter bytes) (ascii bytes)
