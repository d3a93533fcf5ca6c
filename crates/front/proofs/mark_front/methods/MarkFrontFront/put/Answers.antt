use Rattle.std.proofs.Common.{refl}
use Rattle.front.proofs.Marked.{in_range, marked_set}
use Rattle.front.proofs.mark_front.methods.MarkFrontFront.put.Goals as goal

pub returns-clause-put : goal.returns-clause-put
returns-clause-put c =
    let s = c.args.self.now in
    let p = c.args.place in
    (in_range s.marks.now s.size p s.fits c.if-place-self.false, record { waits_now = marked_set s.size s.marks.now p 1; same_tally = refl })
