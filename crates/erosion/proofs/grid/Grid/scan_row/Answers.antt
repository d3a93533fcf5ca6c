use Rattle.std.proofs.Common.{◌≡◌, ℕ, ◌+◌, ◌-◌, ◌<◌, ◌≤◌, min, sym, ap, ◌∙◌, subst₂, rules, arith, below_more}
use Rattle.sheet.specs.Images.{Image, image_of}
use Rattle.erosion.specs.declared.raster.Sense.{Sense}
use Rattle.erosion.specs.Walks.{turn, turned_image}
use Rattle.erosion.specs.Window.{west_of, prior_of, lowest_of, window_of}
use Rattle.erosion.specs.Grids.{held}
use Rattle.erosion.proofs.Grids.{stays_more}
use Rattle.erosion.proofs.Walks.{turn_back, turn_on, turn_only}
use Rattle.erosion.proofs.Window.{west_next}
use Rattle.erosion.proofs.ScanWindow.{west_same, prior_same}
use Rattle.erosion.proofs.grid.Grid.scan_row.Goals as goal

pub loop-j-preserved : goal.loop-j-preserved
loop-j-preserved c =
    let e : Sense = c.args.sense in
    let h : ℕ = c.args.self.now.size.height in
    let w : ℕ = c.args.self.now.size.width in
    let i : ℕ = c.args.i in
    let j : ℕ = c.loop-j.j in
    let row : ℕ = c.turned-row.result in
    let column : ℕ = c.turned-column.result in
    let f : Image = turned_image e h w (held c.args.self.now) in
    let g : Image = turned_image e h w (held c.loop-j.grid) in
    let g' : Image = turned_image e h w (held c.put.new.self) in
    let on : j < w = c.loop-j-test.true in
    let stays = c.loop-j.invariant.2 in
    let view = c.view-view.ensures in
    let at : turn e w column ≡ j = turn_back e w j column on c.turned-column.ensures.is in
    let at_row : row ≡ turn e h i = c.turned-row.ensures.is in
    let at-column : column ≡ turn e w j = c.turned-column.ensures.is in
    let kept : (k : ℕ) → k < j → g' i k ≡ g i k =
    λ k p. c.put.ensures.others (turn e h i) (turn e w k) (omega (arith, stays.same_width, turn_on e w k (omega arith))) (λ _ q. omega (arith, turn_only e w k j (omega arith) on (q ∙ at-column))) in
    let before : (k : ℕ) → prior_of w g i k ≡ prior_of w f i k =
    λ k. prior_same w g f i k (λ p q.
    c.loop-j.invariant.1 (turn e h (i - 1)) (turn e w k) (turn_on e w k q) (λ r. omega (arith, turn_only e h (i - 1) i (omega arith) c.requires (r ∙ at_row)))) in
    let west' : (k : ℕ) → k ≤ j → west_of g' i k ≡ west_of g i k = λ k p. west_same g' g i k (λ q. kept (k - 1) (omega arith)) in
    let here : g' i j ≡ c.lowest-least.result = (λ x. held c.put.new.self (sym at_row x) (sym at-column x)) ∙ c.put.ensures.pixel in
    let own : c.at-own.result ≡ f i j =
    c.at-own.ensures ∙ (λ x. image_of (view.alike.width x) (view.keys x) row column) ∙ c.loop-j.invariant.1 row column c.turned-column.ensures.within (λ _. omega arith) ∙ (λ x. held c.args.self.now (at_row x) (at-column x)) in
    let west : c.loop-j.west ≡ west_of g' i j = c.loop-j.invariant.3 ∙ sym (west' j (omega arith)) in
    let next : c.prior-next.result ≡ prior_of w f i (j + 1) = c.prior-next.ensures
    ∙ (λ x. prior_of (view.alike.width x) (turned_image e (view.alike.height x) (view.alike.width x) (image_of (view.alike.width x) (view.keys x))) i (j + 1))
    ∙ (λ x. prior_of (stays.same_width x) (turned_image e (stays.same_height x) (stays.same_width x) (held c.loop-j.grid)) i (j + 1))
    ∙ before (j + 1) in
    let corner = c.loop-j.invariant.4 in
    let above = c.loop-j.invariant.5 in
    let least : c.lowest-least.result ≡ lowest_of (f i j) (min (west_of g' i j) (prior_of w f i j)) (min (west_of (prior_of w f) i j) (prior_of w f i (j + 1))) c.args.weights.straight c.args.weights.diagonal = cc in (
      below_more _ _
          (λ k p.
          kept k p ∙ c.loop-j.invariant.0 k p
          ∙ (λ x. lowest_of (f i k) (min (sym (west' k (omega arith)) x) (prior_of w f i k)) (min (west_of (prior_of w f) i k) (prior_of w f i (k + 1))) c.args.weights.straight c.args.weights.diagonal))
          (here ∙ least),
      (λ r d p n.
          c.put.ensures.others r d (omega (arith, stays.same_width)) (λ q s. omega (arith, n q, ap (turn e w) s))
          ∙ c.loop-j.invariant.1 r d p (λ q. omega (arith, n q))),
      stays_more stays c.put.ensures.stays,
      (sym here ∙ sym (west_next g' i j)),
      (above ∙ sym (west_next (prior_of w f) i j)),
      next,
    )

pub returns : goal.returns
returns c =
    let e : Sense = c.args.sense in
    let h : ℕ = c.args.self.now.size.height in
    let w : ℕ = c.args.self.now.size.width in
    let i : ℕ = c.args.i in
    let f : Image = turned_image e h w (held c.args.self.now) in
    let g : Image = turned_image e h w (held c.loop-j.grid) in
    let at_row = c.turned-row.ensures.is in
    let stays = c.loop-j.invariant.2 in
    let others : (r d : ℕ) → d < w → (r ≡ turn e h i → ⊥) → held c.loop-j.grid r d ≡ held c.args.self.now r d =
    λ r d p n. c.loop-j.invariant.1 r d p (λ q. absurd (n (q ∙ at_row))) in
    let before : (k : ℕ) → prior_of w f i k ≡ prior_of w g i k =
    λ k. prior_same w f g i k (λ p q. sym (others (turn e h (i - 1)) (turn e w k) (turn_on e w k q) (λ r. omega (arith, turn_only e h (i - 1) i (omega arith) c.requires r)))) in
    record {
      line =
          subst₂ (λ v keys. (k : ℕ) → k < w → turned_image e h w (image_of v keys) i k ≡ window_of w c.args.weights.straight c.args.weights.diagonal f (turned_image e h w (image_of v keys)) i k) stays.same_width (search (rules, stays.lender))
          (λ k p.
          c.loop-j.invariant.0 k (omega arith)
          ∙ (λ x. lowest_of (f i k) (min (west_of g i k) (before k x)) (min (west_same (prior_of w f) (prior_of w g) i k (λ _. before (k - 1)) x) (before (k + 1) x)) c.args.weights.straight c.args.weights.diagonal));
      others =
          subst₂ (λ v keys. (r d : ℕ) → d < w → (r ≡ turn e h i → ⊥) → image_of v keys r d ≡ held c.args.self.now r d) stays.same_width (search (rules, stays.lender)) others;
      stays = search rules;
    }
