-- What a word says: a number, a letter or a name.
use Rattle.std.specs.Prelude.{◌≡◌, ℕ, ◌+◌, ◌-◌, ◌*◌, ◌^◌, ◌<◌, cond, ◌&&◌, List, [], ◌∷◌, length, Some, None, codes, decimal, Option, ◌==◌, nat_le}
use Rattle.std.specs.Char.{is_ascii_digit}
use Rattle.std.specs.Str.{all_ascii_digits, bytes_eq}
use Rattle.sheet.specs.declared.order.Order.{Order}
use Rattle.sheet.specs.declared.order.Order.TheVariants.{Parallel, Directional, Raster, Free}
use Rattle.words.specs.declared.call.CallName.{CallName}
use Rattle.words.specs.declared.call.CallName.TheVariants.{Strike, Restore, Settle, Read, Peak, Reopen}
use Rattle.words.specs.declared.metric_name.MetricName.{MetricName}
use Rattle.words.specs.declared.metric_name.MetricName.TheVariants.{City, Chess, Chamfer, Euclid}

-- the number that digits write, each with the weight of its place
abbrev pub value_of : List ℕ → ℕ
value_of [] = 0
value_of (b ∷ bs) = (b - 48) * 10 ^ length bs + value_of bs

-- a number has one to four digits
abbrev pub number_of : List ℕ → Option ℕ
number_of word = cond (nat_le 1 (length word) && nat_le (length word) 4 && all_ascii_digits word) (Some (value_of word)) None

-- a letter is one byte that is no digit
abbrev pub letter_of : List ℕ → Option ℕ
letter_of [] = None
letter_of (b ∷ []) = cond (is_ascii_digit b) None (Some b)
letter_of (b ∷ c ∷ bs) = None

-- the call of a letter: s, u, t, r, p, o
abbrev pub call_of : ℕ → Option CallName
call_of c =
    cond (c == 115) (Some Strike)
    (cond (c == 117) (Some Restore)
    (cond (c == 116) (Some Settle)
    (cond (c == 114) (Some Read)
    (cond (c == 112) (Some Peak)
    (cond (c == 111) (Some Reopen) None)))))

-- the order of a letter: p, d, r, f
abbrev pub order_of : ℕ → Option Order
order_of c =
    cond (c == 112) (Some Parallel)
    (cond (c == 100) (Some Directional)
    (cond (c == 114) (Some Raster)
    (cond (c == 102) (Some Free) None)))

-- the metric of a name
abbrev pub metric_of : List ℕ → Option MetricName
metric_of word =
    cond (bytes_eq word (codes "city")) (Some City)
    (cond (bytes_eq word (codes "chess")) (Some Chess)
    (cond (bytes_eq word (codes "chamfer")) (Some Chamfer)
    (cond (bytes_eq word (codes "euclid")) (Some Euclid) None)))

-- a number below ten thousand is read as it is written
abbrev pub NumbersReadBack : Type 0
NumbersReadBack = (n : ℕ) → n < 10000 → number_of (decimal n) ≡ Some n
