use Rattle.std.proofs.Common.{rules, arith}
use Rattle.std.proofs.lemmas.Iterator.{YieldsList-from_map, YieldsList-from_range, items_from_collect}
use Rattle.pictures.specs.Nearest.{nearest_of}
use Rattle.pictures.proofs.Listing.{listed}
use Rattle.pictures.proofs.picture.Picture.readings.Goals as goal

pub returns : goal.returns
returns c =
    let w = c.args.self.now.size.width in
    let bytes = c.args.self.now.bytes.items in
    items_from_collect _ c.collect.ensures.ran (YieldsList-from_map _ (nearest_of c.args.formula w bytes) (YieldsList-from_range 0 _ _ c.map.ensures.source (omega (arith, c.pixels.ensures))) c.map.ensures.closure
    (λ place r q k. let one = listed c.args.formula w bytes c.in_ok-air.air.items place c.in_ok-air.ensures in search rules))
