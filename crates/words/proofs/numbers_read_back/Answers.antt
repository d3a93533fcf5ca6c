use Rattle.std.proofs.Common.{◌^◌, ◌<◌, Some, decimal, ap, ◌∙◌, arith}
use Rattle.std.proofs.lemmas.Fmt.{decimal_nonempty, digits_decimal, digits_value-decimal, length-decimal-le}
use Rattle.words.proofs.Digits.{own, is_number}
use Rattle.words.proofs.numbers_read_back.Goals as goal

pub returns : goal.returns
returns c n h =
    let fits : n < 2 ^ 64 = omega arith in
    is_number (decimal n) (decimal_nonempty n fits) (length-decimal-le 4 n (omega arith) h fits) (digits_decimal own n fits) ∙ ap Some (digits_value-decimal own n fits)
