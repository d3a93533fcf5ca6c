use Rattle.std.proofs.Common.{◌≡◌, sym, ◌∙◌, arith}
use Rattle.std.proofs.lemmas.Bool.Decides.{nat_tests}
use Rattle.erosion.specs.Grids.{held, sweep_in}
use Rattle.transform.specs.Directional.{swept}
use Rattle.erosion.proofs.grid.Grid.sweep_pixel.Goals as goal

pub returns : goal.returns
unfolding swept
returns c =
    let own : c.at-own.result ≡ held c.args.self.now c.args.row c.args.column = cc in
    let least : c.min-least.result ≡ sweep_in c.args.self.now c.args.direction c.args.straight c.args.row c.args.column = cc in
    record {
      pixel = c.put.ensures.pixel ∙ least;
      others = c.put.ensures.others;
      stays = c.put.ensures.stays;
      idle = λ e. let same : c.min-least.result ≡ c.at-own.result = grind (arith, nat_tests) in sym least ∙ same ∙ own;
      busy = λ e same. let same : c.min-least.result ≡ c.at-own.result = least ∙ same ∙ sym own in grind (arith, nat_tests);
    }
