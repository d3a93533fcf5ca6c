-- A number is what `parse` reads.
use Rattle.std.proofs.Common.{◌≡◌, ℕ, zero, suc, lit<, ◌^◌, ◌<◌, ◌≤◌, Bool, true, false, List, [], ◌∷◌, length, get_or, Some, None, Ok, Err, Result, refl, sym, ap, ◌∙◌, arith, rules}
use Rattle.std.specs.Char.{is_ascii_digit}
use Rattle.std.specs.Result.{result_ok, OkIff}
use Rattle.std.specs.Str.{all_ascii_digits, IsUtf8, IsAscii}
use Rattle.std.specs.Str.Parse.{ParsesUnsigned}
use Rattle.std.proofs.lemmas.Str.{IsUtf8-from_ascii}
use Rattle.std.proofs.lemmas.Str.Parse.{IsNumeralModel, numerals_by_weight, tells_all_ascii_digits, parse_plain, digits_value_short}
use Rattle.std.proofs.lemmas.Bool.Decides.{nat_tests}
use Rattle.words.specs.Words.{value_of, number_of}

pub own : IsNumeralModel (λ ds. all_ascii_digits ds ≡ true) value_of
own = numerals_by_weight _ tells_all_ascii_digits value_of (search rules)

-- of one to four bytes, all digits or not
pub is_number : (s : List ℕ) → 1 ≤ length s → length s ≤ 4 → all_ascii_digits s ≡ true → number_of s ≡ Some (value_of s)
is_number s low high e = grind (arith, nat_tests)

is_no_number : (s : List ℕ) → all_ascii_digits s ≡ false → number_of s ≡ None
is_no_number s e = grind (arith, nat_tests)

ascii : (s : List ℕ) → all_ascii_digits s ≡ true → IsAscii s
ascii [] e i = lit< tt
ascii (b ∷ s) e zero = grind (arith, nat_tests)
ascii (b ∷ s) e (suc i) = ascii s (grind (arith, nat_tests)) i

-- bytes that are no text are no number
pub no_number : (s : List ℕ) → ¬ (IsUtf8 s) → number_of s ≡ None
no_number s h = no_digits (all_ascii_digits s) refl
  where
    no_digits : (digits : Bool) → all_ascii_digits s ≡ digits → number_of s ≡ None
    no_digits true e = absurd (h (IsUtf8-from_ascii s (ascii s e)))
    no_digits false e = is_no_number s e

parsed : {E : Type 0} (s : List ℕ) (r : Result ℕ E) → 1 ≤ length s → length s ≤ 4 → OkIff r ((all_ascii_digits s ≡ true) × (0 < length s) × (value_of s < 2 ^ 64)) (value_of s) → result_ok r ≡ number_of s
parsed s (Ok x) low high h = sym (is_number s low high h.0.0 ∙ ap Some (sym h.1))
parsed s (Err e) low high h = sym (fails (all_ascii_digits s) refl)
  where
    fails : (digits : Bool) → all_ascii_digits s ≡ digits → number_of s ≡ None
    fails true all = absurd (h (all, low, omega (arith, digits_value_short own s 4 all high)))
    fails false none = is_no_number s none

pub read : {E : Type 0} (s : List ℕ) (r : Result ℕ E) → is_ascii_digit (get_or s 0 0) ≡ true → length s ≤ 4 → ParsesUnsigned 64 10 s r → result_ok r ≡ number_of s
read [] r first short parses = let z : ◌≡◌ {A = ℕ} 0 1 = cc in absurd (omega arith)
read (b ∷ s) r first short parses = parsed (b ∷ s) r (omega arith) short (parse_plain own 64 (b ∷ s) r parses (grind (arith, nat_tests)))
