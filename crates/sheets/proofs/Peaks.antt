-- The peak of keys: the fold that defines it finds the greatest distance and the first place that has it.
use Rattle.std.proofs.Common.{◌≡◌, ℕ, zero, suc, ◌/◌, ◌%◌, ◌<◌, ◌≤◌, eqb, ltb, List, get_or, take, Some, None, Option, sym, refl, ap, ◌∙◌, subst, ⊎_elim, arith}
use Rattle.std.proofs.lemmas.List.{get_or-take}
use Rattle.std.proofs.lemmas.Bool.{cases_lt, cond_both, eqb-true, eqb-false, ltb-true, ltb-false}
use Rattle.sheet.specs.Keys.{blank, reading_of}
use Rattle.sheets.specs.Calls.{higher, peak_of}

-- of the first n keys, the one at this place is the first whose distance is the greatest
pub record Greatest (n : ℕ) (keys : List ℕ) (distance place : ℕ) : Type 0 where
  pub within : place < n
  pub filled : get_or keys place 0 < blank
  pub has_it : distance ≡ get_or keys place 0 / 1048576
  pub none_higher : (q : ℕ) → q < n → get_or keys q 0 < blank → get_or keys q 0 / 1048576 ≤ distance
  pub none_before : (q : ℕ) → q < place → get_or keys q 0 < blank → get_or keys q 0 / 1048576 < distance

-- the peak of the first n keys: the greatest distance with the first place that has it, and nothing where all are blank
abbrev pub PeakOf : ℕ → List ℕ → Option (ℕ × ℕ) → Type 0
PeakOf n keys None = (q : ℕ) → q < n → get_or keys q 0 ≡ blank
PeakOf n keys (Some peak) = Greatest n keys peak.0 peak.1

-- keys that agree on the first n have the same peak
peak_same : (n : ℕ) (ks js : List ℕ) → ((q : ℕ) → q < n → get_or ks q 0 ≡ get_or js q 0) → peak_of n ks ≡ peak_of n js
peak_same zero ks js same = refl
peak_same (suc n) ks js same =
    let before = peak_same n ks js (λ q l. same q (omega arith)) in
    let here = same n (omega arith) in
    λ i. higher (before i) (reading_of (here i)) n

-- so the peak of the first n keys alone is the peak of the first n of all
pub peak_of_first : (n : ℕ) (keys : List ℕ) → peak_of n (take n keys) ≡ peak_of n keys
peak_of_first n keys = peak_same n (take n keys) keys (λ q l. get_or-take n keys q 0 l)

-- one more key, of which the reading is known
module _ (n : ℕ) (keys : List ℕ) where
  -- a blank one changes nothing
  meets_blank : (peak : Option (ℕ × ℕ)) → get_or keys n 0 ≡ blank → PeakOf n keys peak → PeakOf (suc n) keys peak
  meets_blank None e all = λ q l. ⊎_elim (λ (b : q < n). all q b) (λ (b : n ≤ q). let at : q ≡ n = omega arith in ap (λ (i : ℕ). get_or keys i 0) at ∙ e) (cases_lt q n)
  meets_blank (Some peak) e g = record {
    within = omega (arith, g.within);
    filled = g.filled;
    has_it = g.has_it;
    none_higher = λ q l f.
        ⊎_elim
        (λ (b : q < n). g.none_higher q b f)
        (λ (b : n ≤ q). let at : q ≡ n = omega arith in let here = ap (λ (i : ℕ). get_or keys i 0) at in absurd (omega arith))
        (cases_lt q n);
    none_before = g.none_before;
  }

  -- another is the first, is higher, or changes nothing
  meets_more : (peak : Option (ℕ × ℕ)) → get_or keys n 0 < blank → PeakOf n keys peak → PeakOf (suc n) keys (higher peak (Some (get_or keys n 0 / 1048576, get_or keys n 0 % 1048576)) n)
  meets_more None f all = record {
    within = omega arith;
    filled = f;
    has_it = refl;
    none_higher = λ q l g.
        ⊎_elim
        (λ (b : q < n). let e = all q b in absurd (omega arith))
        (λ (b : n ≤ q). let at : q ≡ n = omega arith in subst (λ (i : ℕ). get_or keys i 0 / 1048576 ≤ get_or keys n 0 / 1048576) (sym at) (omega arith))
        (cases_lt q n);
    none_before = λ q b g. let e = all q b in absurd (omega arith);
  }
  meets_more (Some peak) f g =
      cond_both (ltb peak.0 (get_or keys n 0 / 1048576)) (Some (get_or keys n 0 / 1048576, n)) (Some peak) (λ (p : Option (ℕ × ℕ)). PeakOf (suc n) keys p)
      (λ e.
      let most : peak.0 < get_or keys n 0 / 1048576 = ltb-true _ _ e in
      record {
        within = omega arith;
        filled = f;
        has_it = refl;
        none_higher = λ q l h.
            ⊎_elim
            (λ (b : q < n). let low = g.none_higher q b h in omega arith)
            (λ (b : n ≤ q). let at : q ≡ n = omega arith in subst (λ (i : ℕ). get_or keys i 0 / 1048576 ≤ get_or keys n 0 / 1048576) (sym at) (omega arith))
            (cases_lt q n);
        none_before = λ q b h. let low = g.none_higher q b h in omega arith;
      })
      (λ e.
      let most : get_or keys n 0 / 1048576 ≤ peak.0 = ltb-false _ _ e in
      record {
        within = omega (arith, g.within);
        filled = g.filled;
        has_it = g.has_it;
        none_higher = λ q l h.
            ⊎_elim
            (λ (b : q < n). g.none_higher q b h)
            (λ (b : n ≤ q). let at : q ≡ n = omega arith in subst (λ (i : ℕ). get_or keys i 0 / 1048576 ≤ peak.0) (sym at) most)
            (cases_lt q n);
        none_before = g.none_before;
      })

-- the definition gives the peak
pub peak_meets : (n : ℕ) (keys : List ℕ) → ((q : ℕ) → q < n → get_or keys q 0 ≤ blank) → PeakOf n keys (peak_of n keys)
peak_meets zero keys small = λ q l. absurd (omega arith)
peak_meets (suc n) keys small =
    let before = peak_meets n keys (λ q l. small q (omega arith)) in
    cond_both (eqb (get_or keys n 0) blank) None (Some (get_or keys n 0 / 1048576, get_or keys n 0 % 1048576)) (λ (reading : Option (ℕ × ℕ)). PeakOf (suc n) keys (higher (peak_of n keys) reading n))
    (λ e. meets_blank n keys (peak_of n keys) (eqb-true _ _ e) before)
    (λ e. let ne = eqb-false _ _ e in let low = small n (omega arith) in meets_more n keys (peak_of n keys) (omega arith) before)
