use Rattle.std.proofs.Common.{◌≡◌, ℕ, ◌-◌, ◌*◌, ◌≤◌, false, length, sym, ap, ◌∙◌, le_trans, arith, length-set}
use Rattle.std.proofs.lemmas.Bool.{true≢false}
use Rattle.sheet.specs.Images.{image_of}
use Rattle.settling.proofs.Turns.{turn_between, spread_above}
use Rattle.settling.proofs.free.spread_all.Goals as goal

pub loop-place-preserved : goal.loop-place-preserved
loop-place-preserved g c =
    let size = c.args.size in
    let w : ℕ = size.width in
    let k : ℕ = c.in-Some.place in
    let inv = c.loop-place.invariant in
    let taken = c.in-Some.ensures.taken in
    let done = c.spread_from.ensures in
    let at = c.row_of-row.ensures in
    let row : ℕ = c.row_of-row.result in
    let column : ℕ = k - row * w in (
      turn_between size _ _ _ _ _ _ _ _ _ k inv.0 taken done.offers.relaxed _ row column (omega (arith, at.starts)) done.offers.same_tally at.column done.image done.offers.rest,
      done.offers.relaxed.same_size ∙ ap length taken.waits_no_more ∙ length-set (g.F.Front.waits c.loop-place.front) k false ∙ inv.1,
      done.offers.rest ∙ inv.2,
      (λ i. le_trans (done.offers.relaxed.falls i) (inv.3 i)),
      (λ goal stable below r e p q.
          le_same _ _ _ (spread_above size.height w _ _ (image_of w c.loop-place.keys) goal row column at.row at.column stable (inv.4 goal stable below) r e p q) (done.image r e p q)),
      (λ none. absurd (true≢false (sym taken.waited ∙ (inv.5 none).0 k))),
    )
  where
    le_same : (a b c : ℕ) → a ≤ b → c ≡ b → a ≤ c
    le_same a b c p e = omega arith
