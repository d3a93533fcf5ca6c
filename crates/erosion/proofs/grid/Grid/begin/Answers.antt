use Rattle.std.proofs.Common.{◌≡◌, ℕ, length, take, ◌∙◌, arith}
use Rattle.std.proofs.lemmas.List.{length-take-le}
use Rattle.std.proofs.lemmas.Nat.{mul-add-lt}
use Rattle.sheet.specs.Images.{image_of}
use Rattle.sheet.specs.Pixels.{place_of}
use Rattle.transform.specs.Erosion.{starting}
use Rattle.erosion.proofs.grid.Grid.begin.Goals as goal

pub returns-clause-image : goal.returns-clause-image
unfolding starting
returns-clause-image c r d h k =
    let s = c.args.self.now in
    let n : ℕ = c.pixels.result in
    let long : length (take n c.args.picture.now) ≡ n = length-take-le n c.args.picture.now (omega (arith, c.requires)) in
    (λ i. image_of (c.loop-place.invariant.1.same_width i) c.loop-place.self.keys.now r d)
    ∙ c.loop-place.invariant.0 (place_of s.size.width r d) (omega (arith, long, c.loop-place-test.false, mul-add-lt r s.size.width d s.size.height h k))
