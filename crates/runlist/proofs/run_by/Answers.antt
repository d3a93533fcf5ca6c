use Rattle.std.proofs.Common.{◌≡◌, List, [], ◌∷◌, ◌++◌, sym, refl, ap, ◌∙◌, vec_items, rules}
use Rattle.std.proofs.lemmas.List.{append_assoc, append-nil}
use Rattle.erosion.specs.Memory.{Fits}
use Rattle.reader.specs.Left.{left}
use Rattle.reader.specs.declared.list.Entry.{Entry}
use Rattle.runlist.specs.Answering.{carbon, outcome_of}
use Rattle.runlist.proofs.Running.{running_none, running_next, running_same, opens, accepts}
use Rattle.runlist.proofs.run_by.Goals as goal

pub unwrap-bench-requires : goal.unwrap-bench-requires
unwrap-bench-requires g c =
    let is : c.as_mut_slice-picture.result.now ≡ carbon c.args.size = search rules in
    let fits : Fits c.args.size c.as_mut_slice-keys.result.now = search rules in
    accepts _ _ _ c.open.result c.open.ensures.answers (opens c.args.size _ _ is fits)

pub loop-entry-init : goal.loop-entry-init
loop-entry-init g c =
    let is : c.as_mut_slice-picture.result.now ≡ carbon c.args.size = search rules in
    let opened = rw c.unwrap-bench.ensures at c.open.ensures.answers in
    let begins = rw c.unwrap-bench.ensures at c.open.ensures.begins in
    let none : vec_items c.new-answers.result ≡ [] = search rules in
    let made = running_none _ c.args.size c.unwrap-bench.result _ _ opened.1.0 opened.1.1 is begins in
    (tt, tt, running_same _ _ _ _ _ _ _ _ _ _ made refl none, search rules)

pub loop-entry-preserved : goal.loop-entry-preserved
loop-entry-preserved g c =
    let inv = c.loop-entry.invariant in
    let entry : Entry = c.in-Some.entry in
    let taken : left c.loop-entry.entry-iterator ≡ entry ∷ left c.next.new.self = search rules in
    let outcome : c.map.result ≡ outcome_of c.args.size.width c.answer-gave.result = search rules in
    let made = running_next c.args.size.width c.args.size.height _ _ _ _ _ _ _ entry _ inv.2 c.answer-gave.ensures.runs_on c.asked-call.ensures (ap (λ o. record { line = entry.line; outcome = o }) outcome) in (
      tt,
      tt,
      running_same _ _ _ _ _ _ _ _ _ _ made refl c.in_ok-push.ensures.items,
      inv.3 ∙ ap (λ (v : List Entry). c.loop-entry.yielded ++ v) taken ∙ sym (append_assoc c.loop-entry.yielded (entry ∷ []) _),
    )

pub returns : goal.returns
returns g c =
    let inv = c.loop-entry.invariant in
    let none : left c.loop-entry.entry-iterator ≡ [] = search rules in
    (_, _, _, running_same _ _ _ _ _ _ _ _ _ _ inv.2 (inv.3 ∙ ap (λ (v : List Entry). c.loop-entry.yielded ++ v) none ∙ append-nil c.loop-entry.yielded) refl)
