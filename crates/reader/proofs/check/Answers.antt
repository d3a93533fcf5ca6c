use Rattle.std.proofs.Common.{◌≡◌, Ok, codes, sym, ap, ◌∙◌, arith}
use Rattle.reader.specs.Lists.{past_names, call_fault, entries_from, lines_of, bad_size}
use Rattle.reader.specs.Reading.{lines_left}
use Rattle.reader.proofs.Accepting.{no_fault, accepted, three_past}
use Rattle.reader.proofs.check.Goals as goal

pub returns : goal.returns
returns c =
    let fourth : c.names-2.new.self.number ≡ 4 =
    omega (arith, c.of-lines.ensures.number, c.in_ok-names.ensures.1, c.in_ok-values.ensures.1, c.in_ok-names-2.ensures.1)
    in
    let first = ap (past_names (codes "width,height,metric")) (sym c.of-lines.ensures.lines) ∙ c.in_ok-names.ensures.0 in
    let list = accepted c.args.text.now (lines_left c.names.new.self) c.in_ok-values.values (lines_left c.values.new.self) (lines_left c.names-2.new.self)
    (omega arith)
    first
    c.in_ok-values.ensures.0
    c.in_ok-names-2.ensures.0
    (ap (λ k. call_fault k (lines_left c.names-2.new.self)) (sym fourth) ∙ no_fault (call_fault c.names-2.new.self.number (lines_left c.names-2.new.self)) c.in_ok-check_calls.ensures)
    c.in_ok-size_of.ensures.0 in
    let size = c.in_ok-size_of.ensures in
    let metric = c.in_ok-values.values.metric in
    let past = three_past (lines_of c.args.text.now) (lines_left c.names.new.self) c.in_ok-values.values (lines_left c.values.new.self) (lines_left c.names-2.new.self) first c.in_ok-values.ensures.0 c.in_ok-names-2.ensures.0 in
    let calls = c.left_in.ensures ∙ ap (λ k. entries_from k (lines_left c.names-2.new.self)) fourth in
    record {
      list = (λ i. Ok (record { values = record { width = size.1 i; height = size.2 i; metric = metric }; entries = calls i })) ∙ list;
      size = (λ i. bad_size (record { width = size.1 i; height = size.2 i; metric = metric })) ∙ size.0;
      calls = calls ∙ ap (entries_from 4) past;
    }
