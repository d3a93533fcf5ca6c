use Rattle.std.proofs.Common.{◌≡◌, rules, ◌++◌, drop, replicate, ap, ◌∙◌}
use Rattle.front.specs.Memory.{marked}
use Rattle.front.proofs.Marked.{cleared}
use Rattle.front.proofs.queue_front.QueueFront.over.Goals as goal

pub returns-clause-waits : goal.returns-clause-waits
returns-clause-waits c =
    let n = c.fitting-fit.result in
    let ms = c.args.flags.now in
    let filled : c.fill.new.self ≡ replicate n 0 = search rules in
    ap (λ fs. marked n (fs ++ drop n ms)) filled ∙ cleared ms n
