use Rattle.std.proofs.Common.{rules, sym, ◌∙◌, subst, subst₂, arith}
use Rattle.transform.specs.Erosion.{rounds}
use Rattle.erosion.specs.Rounds.{Settles, CountsRounds}
use Rattle.erosion.proofs.Grids.{stays_self, stays_more, rest_at, held_at, rounded_at}
use Rattle.erosion.proofs.Settling.{few_rounds, done_more, done_last}
use Rattle.erosion.proofs.parallel.run_rounds.Goals as goal

pub rounds-init : goal.rounds-init
unfolding rounds
rounds-init g c = (record { image = λ r d p q. held_at c.begin.ensures.stays r d ∙ c.begin.ensures.image r d p q; busy = λ j p. absurd (omega arith) }, stays_self, stays_self)

pub overflow_add-level : goal.overflow_add-level
overflow_add-level g c = omega (arith, few_rounds (g.met.M.Metric.lawful c.args.metric.now) c.rounds.invariant.0)

pub returns-then-not-erode : goal.returns-then-not-erode
returns-then-not-erode g c =
    let m = g.M.Metric.model c.args.metric.now in
    let stays = stays_more c.begin.ensures.stays c.rounds.invariant.1 in
    let spare_stays = stays_more c.rounds.invariant.2 c.erode.ensures.stays in
    let end = done_last (g.met.M.Metric.lawful c.args.metric.now) c.rounds.invariant.0 c.weights.ensures.straight c.weights.ensures.diagonal (rounded_at stays c.view.ensures.alike c.view.ensures.keys c.erode.ensures.round) c.if-not-erode.true in
    record {
      settles =
          subst₂ (λ keys spare. Settles m c.args.size c.args.picture.now c.args.keys.now keys c.args.spare.now spare) (search (rules, stays.lender)) (search (rules, spare_stays.lender))
          record {
            image = end.image_before;
            copy = end.image_after;
            rest = rest_at stays;
            spare_rest = rest_at spare_stays;
          };
      counts = subst (CountsRounds m c.args.size c.args.picture.now) (sym c.from.ensures) end.counts;
    }

pub overflow_add-level-in-rounds : goal.overflow_add-level-in-rounds
overflow_add-level-in-rounds g c = omega (arith, few_rounds (g.met.M.Metric.lawful c.args.metric.now) c.rounds.invariant.0)

pub returns-then-not-erode-2 : goal.returns-then-not-erode-2
returns-then-not-erode-2 g c =
    let m = g.M.Metric.model c.args.metric.now in
    let law = g.met.M.Metric.lawful c.args.metric.now in
    let stays = stays_more c.begin.ensures.stays c.rounds.invariant.1 in
    let keys_stay = stays_more stays c.erode-in-rounds.ensures.stays in
    let spare_stays = stays_more c.rounds.invariant.2 c.erode.ensures.stays in
    let more = done_more law c.rounds.invariant.0 c.weights.ensures.straight c.weights.ensures.diagonal (rounded_at stays c.view.ensures.alike c.view.ensures.keys c.erode.ensures.round) c.if-not-erode.false in
    let end = done_last law more c.weights-in-rounds.ensures.straight c.weights-in-rounds.ensures.diagonal (rounded_at spare_stays c.view-in-rounds.ensures.alike c.view-in-rounds.ensures.keys c.erode-in-rounds.ensures.round) c.if-not-erode-2.true in
    record {
      settles =
          subst₂ (λ keys spare. Settles m c.args.size c.args.picture.now c.args.keys.now keys c.args.spare.now spare) (search (rules, keys_stay.lender)) (search (rules, spare_stays.lender))
          record {
            image = end.image_after;
            copy = end.image_before;
            rest = rest_at keys_stay;
            spare_rest = rest_at spare_stays;
          };
      counts = subst (CountsRounds m c.args.size c.args.picture.now) (sym c.from-then-not-erode-2.ensures) end.counts;
    }

pub rounds-smaller : goal.rounds-smaller
rounds-smaller g c = omega (arith, few_rounds (g.met.M.Metric.lawful c.args.metric.now) c.rounds.invariant.0)

pub rounds-preserved : goal.rounds-preserved
rounds-preserved g c =
    let law = g.met.M.Metric.lawful c.args.metric.now in
    let stays = stays_more c.begin.ensures.stays c.rounds.invariant.1 in
    let spare_stays = stays_more c.rounds.invariant.2 c.erode.ensures.stays in
    let more = done_more law c.rounds.invariant.0 c.weights.ensures.straight c.weights.ensures.diagonal (rounded_at stays c.view.ensures.alike c.view.ensures.keys c.erode.ensures.round) c.if-not-erode.false in (
      done_more law more c.weights-in-rounds.ensures.straight c.weights-in-rounds.ensures.diagonal (rounded_at spare_stays c.view-in-rounds.ensures.alike c.view-in-rounds.ensures.keys c.erode-in-rounds.ensures.round) c.if-not-erode-2.false,
      stays_more c.rounds.invariant.1 c.erode-in-rounds.ensures.stays,
      spare_stays,
    )
