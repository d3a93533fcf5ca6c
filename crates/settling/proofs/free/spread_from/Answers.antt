use Rattle.std.proofs.Common.{◌≡◌, ℕ, ◌<◌, ◌≤◌, sym, ap, ◌∙◌, ⊎_elim, arith}
use Rattle.std.proofs.lemmas.Bool.{cases_lt}
use Rattle.sheet.specs.Pixels.{apart}
use Rattle.sheet.specs.Images.{Image, image_of}
use Rattle.transform.specs.Free.{spread}
use Rattle.settling.specs.Within.{offered}
use Rattle.settling.proofs.Offers.{relaxed_then}
use Rattle.settling.proofs.Neighbours.{middle_of, side_of, keys_own, keys_beside, spread_off, spread_line}
use Rattle.settling.proofs.free.spread_from.Goals as goal
use Rattle.settling.proofs.free.spread_from.Goals.{then-at-row, else-at-row}

pub loop-at-preserved : goal.loop-at-preserved
loop-at-preserved g c =
    let w : ℕ = c.args.size.width in
    let row : ℕ = c.args.row in
    let column : ℕ = c.args.column in
    let s : ℕ = c.args.weights.straight in
    let d : ℕ = c.args.weights.diagonal in
    let at : ℕ = c.loop-at.at in
    let f : Image = image_of w c.args.keys.now in
    let f' : Image = image_of w c.spread_row.new.keys in
    let key : ℕ = f row column in
    let inv = c.loop-at.invariant in
    let done = c.spread_row.ensures in
    let near = c.step-near.ensures in
    let across = c.step-across.ensures in
    let chosen : c.if-at-row.middle ≡ (middle_of key s row at, side_of key s d row at) =
    elim c.if-at-row.branch [
      | then-at-row t ↦ t.middle-is ∙ keys_own key _ s d row at near t.if-at-row.true
      | else-at-row t ↦ t.middle-is ∙ keys_beside key _ _ s d row at near across t.if-at-row.false
    ] in (
      (λ r e low high on.
          ⊎_elim
          (λ (l : r < at). done.others r e on (λ p. omega arith) ∙ inv.0 r e low l on)
          (λ (l : at ≤ r).
          let p : r ≡ at = omega arith in
          let same : image_of w c.loop-at.keys at e ≡ f at e = inv.1 at e on (λ _ n. omega arith) in
          ap (λ n. f' n e) p ∙ done.line e on
          ∙ (λ k. offered (chosen k).0 (chosen k).1 column (λ _. same k) e)
          ∙ spread_line s d f row column at e (omega arith)
          ∙ ap (λ n. spread s d f row column n e) (sym p))
          (cases_lt r at)),
      (λ r e on n. done.others r e on (λ p. n (omega arith) (omega arith)) ∙ inv.1 r e on (λ low high. n low (omega arith))),
      done.offers.rest ∙ inv.2,
      relaxed_then _ _ _ _ _ _ inv.3 done.offers.relaxed,
      done.offers.same_tally ∙ inv.4,
    )

pub returns : goal.returns
returns g c =
    let inv = c.loop-at.invariant in
    record {
      image = λ r e p q.
          ⊎_elim
          (λ (u : 1 < apart c.args.row r). inv.1 r e q (λ low high. omega arith) ∙ sym (spread_off _ _ _ _ _ r e u))
          (λ (u : apart c.args.row r ≤ 1). inv.0 r e (omega arith) (omega arith) q)
          (cases_lt 1 (apart c.args.row r));
      offers = record { rest = inv.2; relaxed = inv.3; same_tally = inv.4 };
    }
