use Rattle.std.proofs.Common.{◌≡◌, ℕ, ◌<◌, ◌≤◌, min, cond, eqb, sym, ap, ◌∙◌, ⊎_elim, arith}
use Rattle.std.proofs.lemmas.Bool.{cases_lt, cond-true, cond-false, eq-eqb, ne_eqb}
use Rattle.sheet.specs.Images.{Image, image_of}
use Rattle.settling.proofs.Offers.{relaxed_then}
use Rattle.settling.proofs.free.spread_row.Goals as goal
use Rattle.settling.proofs.free.spread_row.Goals.{then-at-column, else-at-column}

pub loop-at-preserved : goal.loop-at-preserved
loop-at-preserved g c =
    let w : ℕ = c.args.size.width in
    let row : ℕ = c.args.row in
    let at : ℕ = c.loop-at.at in
    let f : Image = image_of w c.args.keys.now in
    let f' : Image = image_of w c.offer.new.keys in
    let inv = c.loop-at.invariant in
    let offer = c.offer.ensures in
    let on : at < w = omega arith in
    let choice : ℕ → ℕ = λ d. cond (eqb d c.args.column) c.args.middle c.args.side in
    let key : c.if-at-column.key ≡ choice at =
    elim c.if-at-column.branch [
      | then-at-column t ↦ t.key-is ∙ sym (cond-true _ _ _ (eq-eqb _ _ t.if-at-column.true))
      | else-at-column t ↦ t.key-is ∙ sym (cond-false _ _ _ (ne_eqb _ _ t.if-at-column.false))
    ] in (
      (λ d low high.
          ⊎_elim
          (λ (l : d < at). offer.others row d (omega arith) (λ _ e. omega arith) ∙ inv.0 d low l)
          (λ (l : at ≤ d).
          let e : d ≡ at = omega arith in
          ap (f' row) e ∙ offer.pixel ∙ (λ k. min (inv.1 row at on (λ _ _ n. omega arith) k) (key k)) ∙ ap (λ n. min (f row n) (choice n)) (sym e))
          (cases_lt d at)),
      (λ r d k n. offer.others r d k (λ p q. n p (omega arith) (omega arith)) ∙ inv.1 r d k (λ p low high. n p low (omega arith))),
      offer.offers.rest ∙ inv.2,
      relaxed_then _ _ _ _ _ _ inv.3 offer.offers.relaxed,
      offer.offers.same_tally ∙ inv.4,
    )
