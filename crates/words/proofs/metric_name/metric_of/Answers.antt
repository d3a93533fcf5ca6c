use Rattle.std.proofs.Common.{◌≡◌, codes, refl, rules, arith}
use Rattle.std.proofs.lemmas.Slice.Eq.{text_from_reads}
use Rattle.words.proofs.metric_name.metric_of.Goals as goal

pub returns-in-chamfer : goal.returns-in-chamfer
returns-in-chamfer c =
    let is : c.args.name.now ≡ codes "chamfer" = text_from_reads _ _ (omega arith) (search rules) in rw is refl

pub returns-in-euclid : goal.returns-in-euclid
returns-in-euclid c =
    let is : c.args.name.now ≡ codes "euclid" = text_from_reads _ _ (omega arith) (search rules) in rw is refl
