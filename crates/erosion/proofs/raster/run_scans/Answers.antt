use Rattle.std.proofs.Common.{rules, ◌≡◌, ℕ, ◌*◌, drop, List, refl, ◌∙◌, subst}
use Rattle.sheet.specs.Images.{Image, Same, image_of}
use Rattle.transform.specs.Raster.{rising, falling}
use Rattle.transform.proofs.Raster.{scans_settle}
use Rattle.erosion.specs.Rounds.{Settles}
use Rattle.erosion.proofs.Grids.{at_size, stays_more, rest_at, held_at, scanned_at}
use Rattle.erosion.proofs.ScanWindow.{scan_same}
use Rattle.erosion.proofs.raster.run_scans.Goals as goal

pub returns : goal.returns
returns g c =
    let m = g.M.Metric.model c.args.metric.now in
    let size = c.args.size in
    let picture = c.args.picture.now in
    let keys : List ℕ = c.scan_rows-2.new.self.keys.now in
    let begun = c.begin.ensures.stays in
    let once = stays_more begun c.scan_rows.ensures.stays in
    let twice = stays_more once c.scan_rows-2.ensures.stays in
    let first : Image = image_of size.width c.scan_rows.new.self.keys.now in
    let second : Image = image_of size.width keys in
    let image =
    scans_settle m size.height size.width (image_of size.width picture) first second (g.met.M.Metric.lawful c.args.metric.now) c.requires.steady size.tall size.wide
    (scan_same rising size.height size.width _ _ _ _ _ _ first c.weights-weights.ensures.straight c.weights-weights.ensures.diagonal (λ r d p q. held_at begun r d ∙ c.begin.ensures.image r d p q) (scanned_at begun c.scan_rows.ensures.scan).image)
    (scan_same falling size.height size.width _ _ _ _ _ _ second c.weights-weights.ensures.straight c.weights-weights.ensures.diagonal (λ r d p q. refl) (scanned_at once c.scan_rows-2.ensures.scan).image) in
    let copied = at_size twice (λ h w. Same h w (image_of w c.copy.new.other) (image_of w keys)) c.copy.ensures.image in
    subst (λ (keys : List ℕ). Settles m size picture c.args.keys.now keys c.args.spare.now c.copy.new.other) (search (rules, twice.lender))
    record {
      image = image;
      copy = λ r d p q. copied r d p q ∙ image r d p q;
      rest = rest_at twice;
      spare_rest = at_size twice (λ h w. drop (w * h) c.copy.new.other ≡ drop (w * h) c.args.spare.now) c.copy.ensures.rest;
    }
