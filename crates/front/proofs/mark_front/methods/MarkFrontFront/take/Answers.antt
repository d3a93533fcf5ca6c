use Rattle.std.proofs.Common.{◌<◌, sym, ◌∙◌, arith, length-set}
use Rattle.front.proofs.Marked.{get_or_marked_in, length_marked, marked_set, clear_up_to}
use Rattle.front.proofs.mark_front.methods.MarkFrontFront.take.Goals as goal

pub invariant_of-self : goal.invariant_of-self
invariant_of-self c =
    let s = c.args.self.now in
    let ms = s.marks.now in
    let n = s.size in
    let p = c.in_ok-place.place in
    let is = c.in_ok-place.ensures in
    let l : p < n = omega (arith, is.within, length_marked ms n s.fits) in
    record {
      bounded = s.bounded;
      fits = simp length-set s.fits;
      within = omega arith;
      below = clear_up_to ms p (omega (arith, s.fits)) (λ k b. sym (get_or_marked_in ms n k (omega arith)) ∙ is.none_lower k b);
    }

pub returns-clause-taken : goal.returns-clause-taken
returns-clause-taken c =
    let s = c.args.self.now in
    let p = c.in_ok-place.place in
    let is = c.in_ok-place.ensures in
    record {
      within = is.within;
      waited = is.waits;
      waits_no_more = marked_set s.size s.marks.now p 0;
      raised_tally = c.saturating_add-self.ensures;
    }
