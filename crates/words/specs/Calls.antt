-- What a call line says.
use Rattle.std.specs.Prelude.{ℕ, cond, ◌&&◌, List, [], ◌∷◌, Some, None, Option, ◌==◌}
use Rattle.words.specs.declared.call.CallName.{CallName}
use Rattle.words.specs.declared.call.CallName.TheVariants as name
use Rattle.words.specs.declared.call.Call.{Call}
use Rattle.words.specs.declared.call.Call.TheVariants as call
use Rattle.words.specs.Parts.{three_words}
use Rattle.words.specs.Words.{number_of, letter_of, call_of, order_of}

-- what follows from a value, where there is one
abbrev pub on : {A B : Type 0} → Option A → (A → Option B) → Option B
on None follows = None
on (Some value) follows = follows value

-- a call without an order has a dash in its place
abbrev pub dashed : ℕ → Call → Option Call
dashed letter made = cond (letter == 45) (Some made) None

-- a call of no one pixel has row 0 and column 0
abbrev pub pixelless : ℕ → ℕ → Option Call → Option Call
pixelless row column made = cond (row == 0 && column == 0) made None

-- the call of a name with its row, column and order letter
abbrev pub call_with : CallName → ℕ → ℕ → ℕ → Option Call
call_with name.Strike row column letter = dashed letter (call.Strike row column)
call_with name.Restore row column letter = dashed letter (call.Restore row column)
call_with name.Settle row column letter = pixelless row column (on (order_of letter) (λ order. Some (call.Settle order)))
call_with name.Read row column letter = dashed letter (call.Read row column)
call_with name.Peak row column letter = pixelless row column (dashed letter call.Peak)
call_with name.Reopen row column letter = pixelless row column (dashed letter call.Reopen)

-- the call of a name with the three words of some bytes
abbrev pub call_by : CallName → List ℕ → Option Call
call_by name bytes =
    on (three_words bytes) (λ words.
    on (number_of words.first) (λ row.
    on (number_of words.second) (λ column.
    on (letter_of words.third) (λ letter.
    call_with name row column letter))))

-- the call of a line: its letter, a comma and three words
abbrev pub call_in : List ℕ → Option Call
call_in [] = None
call_in (letter ∷ []) = None
call_in (letter ∷ b ∷ rest) = cond (b == 44) (on (call_of letter) (λ name. call_by name rest)) None
