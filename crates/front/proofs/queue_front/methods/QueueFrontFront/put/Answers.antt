use Rattle.std.proofs.Common.{◌≡◌, true, get_or, set, sym, refl, ap, ◌∙◌, length-set}
use Rattle.std.proofs.lemmas.List.{get_or-map, set-get_or}
use Rattle.front.specs.Memory.{is_set, marked}
use Rattle.front.proofs.Marked.{is_set_yes, in_range, marked_set}
use Rattle.front.proofs.Queued.{flags_of, flag_is, flag_in, live_ring_put, apart_ring_put, counted_put, live_all_put, apart_all_put, queued_put}
use Rattle.front.proofs.queue_front.methods.QueueFrontFront.put.Goals as goal

pub returns-then-self-place-ne0-clause-put : goal.returns-then-self-place-ne0-clause-put
returns-then-self-place-ne0-clause-put c =
    let s = c.args.self.now in
    let fs = s.flags.now in
    let n = s.size in
    let p = c.args.place in
    let l = c.if-place-self.false in
    let is : get_or (marked n fs) p true ≡ true = get_or-map is_set (flags_of s) p 0 true (flag_in s p l) ∙ (ap is_set (flag_is s p l) ∙ is_set_yes _ c.if-self-place-ne0.true) in
    (in_range fs n p s.fits.1 l, record { waits_now = sym (ap (set (marked n fs) p) (sym is) ∙ set-get_or (marked n fs) p true); same_tally = refl })

pub invariant_of-self : goal.invariant_of-self
invariant_of-self c =
    let s = c.args.self.now in
    let l = c.if-place-self.false in
    let z = c.if-self-place-ne0.false in
    let at = c.turned-at.ensures.value in
    record {
      bounded = s.bounded;
      fits = (simp length-set s.fits.0, s.fits.1);
      within = s.within;
      counted = s.counted;
      live = live_ring_put s _ _ l z at;
      apart = apart_ring_put s _ _ l z at;
    }

pub invariant_of-self-2 : goal.invariant_of-self-2
invariant_of-self-2 c =
    let s = c.args.self.now in
    let l = c.if-place-self.false in
    let z = c.if-self-place-ne0.false in
    let at = c.turned-at.ensures.value in
    record {
      bounded = s.bounded;
      fits = (simp length-set s.fits.0, simp length-set s.fits.1);
      within = s.within;
      counted = counted_put s _ _ l z at;
      live = live_all_put s _ _ l z at;
      apart = apart_all_put s _ _ l z at;
    }

pub returns-clause-put : goal.returns-clause-put
returns-clause-put c =
    let s = c.args.self.now in
    let fs = s.flags.now in
    let p = c.args.place in
    (in_range fs s.size p s.fits.1 c.if-place-self.false, record { waits_now = marked_set s.size fs p 1; same_tally = refl })

pub returns-clause-order : goal.returns-clause-order
returns-clause-order c = queued_put c.args.self.now _ _ c.if-place-self.false c.if-self-place-ne0.false c.turned-at.ensures.value
