use Rattle.std.proofs.Common.{◌≡◌, ℕ, ◌+◌, ◌-◌, ◌<◌, ◌≤◌, min, sym, refl, ap, ◌∙◌, subst, ⊎_elim, arith}
use Rattle.std.proofs.lemmas.Bool.{cases_lt}
use Rattle.sheet.specs.Images.{Image, image_of}
use Rattle.erosion.specs.declared.raster.Sense.{Sense}
use Rattle.erosion.specs.Walks.{turn, turned_image, walked}
use Rattle.erosion.specs.Window.{west_of, prior_of, lowest_of, window_of}
use Rattle.transform.specs.Raster.{Scan}
use Rattle.erosion.specs.Grids.{held}
use Rattle.erosion.specs.Rounds.{before_in}
use Rattle.erosion.proofs.Grids.{at_size, stays_more, rest_at}
use Rattle.erosion.proofs.Walks.{turn_back, turn_on, turn_only}
use Rattle.erosion.proofs.ScanWindow.{window_same, window_scans}
use Rattle.erosion.proofs.grid.Grid.scan_rows.Goals as goal

pub loop-i-preserved : goal.loop-i-preserved
loop-i-preserved c =
    let e : Sense = c.args.sense in
    let h : ℕ = c.args.self.now.size.height in
    let w : ℕ = c.args.self.now.size.width in
    let i : ℕ = c.loop-i.i in
    let on : i < h = c.loop-i-test.true in
    let f : Image = walked e c.args.self.now.size (held c.args.self.now) in
    let g : Image = walked e c.args.self.now.size (held c.loop-i.self) in
    let g' : Image = walked e c.args.self.now.size (held c.scan_row.new.self) in
    let stays = c.loop-i.invariant.2 in
    let others = at_size stays (λ h w. (r k : ℕ) → k < w → (r ≡ turn e h i → ⊥) → held c.scan_row.new.self r k ≡ held c.loop-i.self r k) c.scan_row.ensures.others in
    let line =
    at_size stays (λ h w. (k : ℕ) → k < w → turned_image e h w (held c.scan_row.new.self) i k ≡ window_of w c.args.weights.straight c.args.weights.diagonal (turned_image e h w (held c.loop-i.self)) (turned_image e h w (held c.scan_row.new.self)) i k) c.scan_row.ensures.line in
    let kept : (r k : ℕ) → r < i → k < w → g r k ≡ g' r k =
    λ r k p q. sym (others (turn e h r) (turn e w k) (turn_on e w k q) (λ s. omega (arith, turn_only e h r i (omega arith) on s))) in
    let own : (k : ℕ) → k < w → g i k ≡ f i k = λ k q. c.loop-i.invariant.1 (turn e h i) (turn e w k) (turn_on e w k q) (omega (arith, turn_back e h i (turn e h i) on refl)) in (
      (λ r k p q.
          ⊎_elim
          (λ (l : r < i).
          sym (kept r k l q) ∙ c.loop-i.invariant.0 r k l q
          ∙ window_same w c.args.weights.straight c.args.weights.diagonal f g g' r k q (λ n s. kept r n l s) (λ _ n s. kept (r - 1) n (omega arith) s))
          (λ (l : i ≤ r).
          let x : r ≡ i = omega arith in
          (λ y. g' (x y) k) ∙ line k q
          ∙ (λ y. lowest_of (own k q y) (min (west_of g' i k) (prior_of w g' i k)) (min (west_of (prior_of w g') i k) (prior_of w g' i (k + 1))) c.args.weights.straight c.args.weights.diagonal)
          ∙ (λ y. window_of w c.args.weights.straight c.args.weights.diagonal f g' (sym x y) k))
          (cases_lt r i)),
      (λ r k q l.
          others r k q (λ s. omega (arith, ap (turn e h) s, turn_back e h i (turn e h i) on refl))
          ∙ c.loop-i.invariant.1 r k q (omega arith)),
      stays_more stays c.scan_row.ensures.stays,
    )

pub returns : goal.returns
returns c =
    let s = c.args.self.now in
    let stays = c.loop-i.invariant.2 in
    record {
      scan = record {
        image =
            subst (λ (w : ℕ). Scan (before_in c.args.sense) s.size.height s.size.width c.args.weights.straight c.args.weights.diagonal (held s) (image_of w c.loop-i.self.keys.now)) stays.same_width
            (window_scans c.args.sense s.size.height s.size.width c.args.weights.straight c.args.weights.diagonal (held s) (held c.loop-i.self)
            (λ i j row on. c.loop-i.invariant.0 i j (omega arith) on));
        rest = rest_at stays;
      };
      stays = stays;
    }
