use Rattle.std.proofs.Common.{◌≡◌, ℕ, ◌<◌, sym, ◌∙◌, arith, below_more}
use Rattle.std.proofs.lemmas.Bool.{cond-true, lt-ltb}
use Rattle.sheet.specs.Images.{Image, image_of}
use Rattle.erosion.specs.Window.{upright_of}
use Rattle.erosion.specs.Rounds.{round_of}
use Rattle.erosion.proofs.Grids.{stays_more}
use Rattle.erosion.proofs.Window.{window_eroded, west_next}
use Rattle.erosion.proofs.grid.Grid.erode_row.Goals as goal
use Rattle.erosion.proofs.grid.Grid.erode_row.Goals.{then-least-own, else-least-own}

pub loop-column-preserved : goal.loop-column-preserved
loop-column-preserved c =
    let f : Image = image_of c.args.from.size.width c.args.from.keys.now in
    let u : Image = upright_of c.args.from.size.height f in
    let r : ℕ = c.args.row in
    let i : ℕ = c.loop-column.column in
    let on : i < c.args.from.size.width = c.loop-column-test.true in
    let stays = c.loop-column.invariant.2 in
    let same : c.loop-column.self.size.width ≡ c.args.from.size.width = omega (arith, stays.same_width, c.requires.alike.width) in
    let own : c.loop-column.own ≡ f r i = c.loop-column.invariant.7 ∙ cond-true _ _ _ (lt-ltb _ _ on) in
    let pair : c.loop-column.pair ≡ u r i = c.loop-column.invariant.8 ∙ cond-true _ _ _ (lt-ltb _ _ on) in
    let whole = window_eroded c.args.from.size.height c.args.from.size.width c.args.weights.straight c.args.weights.diagonal f r i c.requires.on on in
    let least : c.lowest-least.result ≡ round_of c.args.from.size c.args.weights.straight c.args.weights.diagonal c.args.from.keys.now r i = cc in (
      below_more _ _
          (λ d h. c.put.ensures.others r d (omega (arith, same)) (λ _ e. omega arith) ∙ c.loop-column.invariant.0 d h)
          (c.put.ensures.pixel ∙ least),
      (λ q d h n. c.put.ensures.others q d (omega (arith, same)) (λ e _. n e) ∙ c.loop-column.invariant.1 q d h n),
      stays_more stays c.put.ensures.stays,
      elim c.if-least-own.branch [
        | then-least-own w ↦ λ e. grind arith
        | else-least-own w ↦ λ e. below_more _ _ (c.loop-column.invariant.3 (sym w.altered-is ∙ e)) (sym least ∙ w.if-least-own.false ∙ own)
      ],
      elim c.if-least-own.branch [
        | then-least-own w ↦ λ _ same. w.if-least-own.true (least ∙ same i on ∙ sym own)
        | else-least-own w ↦ λ e. c.loop-column.invariant.4 (sym w.altered-is ∙ e)
      ],
      (own ∙ sym (west_next f r i)),
      (pair ∙ sym (west_next u r i)),
      c.neighbour-east.ensures,
      c.east_upright-east_pair.ensures,
    )
