use Rattle.std.proofs.Common.{◌≢◌, ◌∙◌}
use Rattle.std.proofs.lemmas.List.{get_or-set_other}
use Rattle.sheet.specs.Pixels.{place_of}
use Rattle.erosion.proofs.Rows.{same_row, same_column}
use Rattle.erosion.proofs.grid.Grid.put.Goals as goal

pub returns-clause-others : goal.returns-clause-others
returns-clause-others c r d k n =
    let ne : place_of c.args.self.now.size.width r d ≢ c.place.result =
    λ e. n (same_row _ _ _ _ _ k c.requires.1 (e ∙ c.place.ensures.is)) (same_column _ _ _ _ _ k c.requires.1 (e ∙ c.place.ensures.is)) in
    rw get_or-set_other
