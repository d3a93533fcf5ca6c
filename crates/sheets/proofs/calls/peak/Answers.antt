use Rattle.std.proofs.Common.{◌≡◌, ◌*◌, ◌≤◌, length, take, ◌∙◌, arith}
use Rattle.std.proofs.lemmas.List.{length-take-le}
use Rattle.sheet.specs.Refusals.{passed}
use Rattle.sheets.specs.Calls.{peak_of}
use Rattle.sheets.proofs.Checks.{memory_passed}
use Rattle.sheets.proofs.Peaks.{peak_of_first}
use Rattle.sheets.proofs.calls.peak.Goals as goal

pub returns : goal.returns
returns c =
    let size = c.args.size in
    let keys = c.args.keys.now in
    let due = c.in_ok-check_memory.ensures.0 in
    let pixels : c.pixels.result ≡ size.width * size.height = omega arith in
    let enough : c.pixels.result ≤ length keys = omega (arith, (memory_passed size keys passed due).0) in
    let long = length-take-le c.pixels.result keys enough ∙ pixels in
    (due, c.highest.ensures ∙ (λ i. peak_of (long i) (take (pixels i) keys)) ∙ peak_of_first (size.width * size.height) keys)
