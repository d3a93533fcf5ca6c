-- What offers do to keys and to a front: one after another, and one.
use Rattle.std.proofs.Common.{◌≡◌, ℕ, ◌+◌, ◌<◌, ◌≤◌, Bool, true, false, cond, ◌||◌, ltb, List, length, get_or, set, sum_by, sum, ◌∙◌, ⊎_elim, le_trans, arith, length-set}
use Rattle.std.proofs.lemmas.List.{get_or-set_same, get_or-set_other}
use Rattle.std.proofs.lemmas.List.Sums.{sum_by-set}
use Rattle.std.proofs.lemmas.Bool.{cases_eq}
use Rattle.std.proofs.lemmas.Bool.Decides.{nat_tests}
use Rattle.front.specs.Waiting.{many}
use Rattle.settling.specs.Within.{Relaxed}

-- a flag that stays, that is passed on, and that is set
flag_kept : (b : Bool) (k : ℕ) → b ≡ (b || ltb k k)
flag_kept b k = grind (arith, nat_tests)

flag_then : (a b : Bool) (k k' k'' : ℕ) → k' ≤ k → k'' ≤ k' → b ≡ (a || ltb k' k) → (b || ltb k'' k') ≡ (a || ltb k'' k)
flag_then a b k k' k'' p q e = grind (arith, nat_tests)

flag_set : (b : Bool) (k k' : ℕ) → k' < k → true ≡ (b || ltb k' k)
flag_set b k k' p = grind (arith, nat_tests)

many_set : (ws : List Bool) (q : ℕ) → q < length ws → many (set ws q true) ≤ many ws + 1
many_set ws q l =
    let e : sum_by (λ b. cond {A = ℕ} b 1 0) (set ws q true) + cond {A = ℕ} (get_or ws q false) 1 0 ≡ sum_by (λ b. cond {A = ℕ} b 1 0) ws + 1 = sum_by-set (λ b. cond {A = ℕ} b 1 0) ws q true false l in
    omega arith

pub relaxed_then : (ks is js : List ℕ) (us vs ws : List Bool) → Relaxed ks is us vs → Relaxed is js vs ws → Relaxed ks js us ws
relaxed_then ks is js us vs ws r s = record {
  falls = λ k. le_trans (s.falls k) (r.falls k);
  put = λ k. s.put k ∙ flag_then _ _ _ _ _ (r.falls k) (s.falls k) (r.put k);
  same_size = s.same_size ∙ r.same_size;
  less = le_trans s.less r.less;
}

pub relaxed_one : (ks : List ℕ) (ws : List Bool) (q key : ℕ) → q < length ks → q < length ws → key < get_or ks q 0 → Relaxed ks (set ks q key) ws (set ws q true)
relaxed_one ks ws q key l room less =
    let s : get_or (set ks q key) q 0 ≡ key = get_or-set_same ks q key 0 l in
    let w : get_or (set ws q true) q false ≡ true = get_or-set_same ws q true false room in
    record {
      falls = λ k.
          ⊎_elim
          (λ (e : k ≡ q). rw e (omega arith))
          (λ (ne : k ≡ q → ⊥). let o = get_or-set_other ks q k key 0 ne in omega arith)
          (cases_eq k q);
      put = λ k.
          ⊎_elim
          (λ (e : k ≡ q). rw (e, s) (w ∙ flag_set _ _ _ less))
          (λ (ne : k ≡ q → ⊥). rw (get_or-set_other ks q k key 0 ne, get_or-set_other ws q k true false ne) (flag_kept _ _))
          (cases_eq k q);
      same_size = length-set ws q true;
      less =
          let e : sum (set ks q key) + get_or ks q 0 ≡ sum ks + key = sum_by-set (λ x. x) ks q key 0 l in
          let m = many_set ws q room in
          omega arith;
    }
