use Rattle.words.proofs.Parting.{four_parts}
use Rattle.words.proofs.word.three_words.Goals as goal

pub returns-in-Some : goal.returns-in-Some
returns-in-Some c = four_parts c.args.bytes.now _ c.in_ok-first.rest.now _ c.in_ok-second.third.now _ c.in-Some.field-0.1.now c.in_ok-first.ensures c.in_ok-second.ensures c.in-Some.ensures
