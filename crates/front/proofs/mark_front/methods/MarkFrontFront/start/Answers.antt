use Rattle.std.proofs.Common.{◌≡◌, rules, ◌++◌, drop, replicate, sym, ap, ◌∙◌}
use Rattle.front.specs.Waiting.{idle}
use Rattle.front.specs.Memory.{marked}
use Rattle.front.proofs.Marked.{cleared, length_marked}
use Rattle.front.proofs.mark_front.methods.MarkFrontFront.start.Goals as goal

pub returns-clause-waits : goal.returns-clause-waits
returns-clause-waits c =
    let s = c.args.self.now in
    let n = s.size in
    let ms = s.marks.now in
    let filled : c.fill.new.self ≡ replicate n 0 = search rules in
    ap (λ fs. marked n (fs ++ drop n ms)) filled ∙ (cleared ms n ∙ ap idle (sym (length_marked ms n s.fits)))
