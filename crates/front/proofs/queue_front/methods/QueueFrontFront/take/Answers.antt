use Rattle.std.proofs.Common.{get_or, sym, refl, ◌∙◌, arith, length-set}
use Rattle.front.proofs.Marked.{get_or_marked, length_marked, marked_set}
use Rattle.front.proofs.Ring.{none_wait}
use Rattle.front.proofs.Queued.{flags_of, first_waits, first_below, counted_take, live_all_take, apart_all_take, queued_take}
use Rattle.front.proofs.queue_front.methods.QueueFrontFront.take.Goals as goal

pub returns-then-self-eq0-clause-taken : goal.returns-then-self-eq0-clause-taken
returns-then-self-eq0-clause-taken c =
    let s = c.args.self.now in
    ((λ k. get_or_marked s.flags.now s.size k ∙ none_wait (flags_of s) (sym s.counted ∙ c.if-self-eq0.true) k), refl)

pub bounds-self-place : goal.bounds-self-place
bounds-self-place c = let s = c.args.self.now in omega (arith, first_below s c.if-self-eq0.false, s.fits.1)

pub invariant_of-self : goal.invariant_of-self
invariant_of-self c =
    let s = c.args.self.now in
    let ne = c.if-self-eq0.false in
    let next = c.turned-next.ensures.value in
    record {
      bounded = s.bounded;
      fits = (s.fits.0, simp length-set s.fits.1);
      within = λ _. c.turned-next.ensures.below;
      counted = counted_take s _ ne next;
      live = live_all_take s _ ne next;
      apart = apart_all_take s _ ne next;
    }

pub returns-clause-taken : goal.returns-clause-taken
returns-clause-taken c =
    let s = c.args.self.now in
    let ne = c.if-self-eq0.false in
    let fs = s.flags.now in
    let n = s.size in
    let p = get_or s.ring.now s.head 0 in
    record {
      within = rw (length_marked fs n s.fits.1) (first_below s ne);
      waited = get_or_marked fs n p ∙ first_waits s ne;
      waits_no_more = marked_set n fs p 0;
      raised_tally = c.saturating_add-self.ensures;
    }

pub returns-clause-order : goal.returns-clause-order
returns-clause-order c = queued_take c.args.self.now _ c.if-self-eq0.false c.turned-next.ensures.value
