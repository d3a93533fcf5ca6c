use Rattle.std.proofs.Common.{◌≡◌, ℕ, List, get_or, ap, ◌+◌, ◌-◌, ◌<◌, ◌≤◌, false, take, drop, sym, ◌∙◌, ⊎_elim, arith}
use Rattle.std.proofs.lemmas.List.{get_or_past}
use Rattle.std.proofs.lemmas.List.Quantifiers.{position-Some}
use Rattle.std.proofs.lemmas.Bool.{cases_lt}
use Rattle.front.specs.Memory.{is_set, marked}
use Rattle.front.proofs.Marked.{is_set_no, get_or_marked_in, get_or_marked_from, length_cut, length_marked, unset_where_none}
use Rattle.front.proofs.mark_front.MarkFront.lowest.Goals as goal

pub returns-in_err-ahead : goal.returns-in_err-ahead
returns-in_err-ahead c =
    let s = c.args.self.now in
    let ms = s.marks.now in
    let n = s.size in
    rw c.from_residual.ensures
    (λ k. ⊎_elim
    (λ (b : k < s.low). get_or_marked_in ms n k (omega (arith, s.within)) ∙ is_set_no _ (s.below k b))
    (λ (b : s.low ≤ k). ⊎_elim
    (λ (l : k < n). get_or_marked_from ms n s.low k b l ∙ unset_where_none _ (sym c.first_set.ensures ∙ c.in_err-ahead.was) (k - s.low))
    (λ (l : n ≤ k). get_or_past (marked n ms) k false (rw (length_marked ms n s.fits) l))
    (cases_lt k n))
    (cases_lt k s.low))

pub returns : goal.returns
returns c =
    let s = c.args.self.now in
    let ms = s.marks.now in
    let n = s.size in
    let ahead = c.in_ok-ahead.ahead in
    let cut : List ℕ = take (n - s.low) (drop s.low ms) in
    let found = position-Some is_set cut ahead 0 (sym c.first_set.ensures ∙ c.in_ok-ahead.was) in
    let l : s.low + ahead < n = omega (arith, s.within, found.0, length_cut ms n s.low s.fits) in
    let same : s.low + ahead - s.low ≡ ahead = omega arith in
    record {
      within = rw (length_marked ms n s.fits) l;
      waits = get_or_marked_from ms n s.low _ (omega arith) l ∙ ap (λ k. is_set (get_or cut k 0)) same ∙ found.1;
      none_lower = λ k b. ⊎_elim
          (λ (before : k < s.low). get_or_marked_in ms n k (omega (arith, s.within)) ∙ is_set_no _ (s.below k before))
          (λ (after : s.low ≤ k). get_or_marked_from ms n s.low k after (omega arith) ∙ found.2 (k - s.low) (omega arith))
          (cases_lt k s.low);
    }
