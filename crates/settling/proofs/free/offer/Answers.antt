use Rattle.std.proofs.Common.{◌≡◌, ℕ, ◌*◌, ◌<◌, min, Bool, List, length, set, sym, ◌∙◌, subst, arith}
use Rattle.std.proofs.lemmas.List.{get_or-set_same, get_or-set_other, drop-set-lt}
use Rattle.std.proofs.lemmas.Nat.{mul-add-lt}
use Rattle.std.proofs.lemmas.Bool.{lt-leb}
use Rattle.sheet.specs.Pixels.{place_of}
use Rattle.sheet.proofs.Answered.{accepted, check_passed}
use Rattle.erosion.proofs.Rows.{same_row, same_column}
use Rattle.settling.specs.Within.{Relaxed}
use Rattle.settling.proofs.Offers.{relaxed_one}
use Rattle.settling.proofs.free.offer.Goals as goal

pub returns-then-key-keys : goal.returns-then-key-keys
returns-then-key-keys g c =
    let w : ℕ = c.args.size.width in
    let q : ℕ = place_of w c.args.row c.args.column in
    let ks : List ℕ = c.args.keys.now in
    let ws : List Bool = g.F.Front.waits c.args.front.now in
    let column : c.args.column < w = c.requires.on.1 in
    let inside : q < w * c.args.size.height = mul-add-lt c.args.row w c.args.column c.args.size.height c.requires.on.0 column in
    let fits : q < length ks = omega (arith, c.requires.fits) in
    let room : q < length ws = omega (arith, c.requires.room) in
    let put = (accepted _ _ _ _ (check_passed _ _ _ (lt-leb _ _ room)) c.put.ensures.put).1 in
    record {
      pixel = get_or-set_same ks q c.args.key 0 fits ∙ lesser _ _ c.if-key-keys.true;
      others = λ r d k n.
          get_or-set_other ks q (place_of w r d) c.args.key 0 (λ e. n (same_row _ _ _ _ _ k column e) (same_column _ _ _ _ _ k column e));
      offers = record {
        rest = drop-set-lt _ _ _ _ inside;
        relaxed = subst (λ v. Relaxed ks (set ks q c.args.key) ws v) (sym put.waits_now) (relaxed_one ks ws q c.args.key fits room c.if-key-keys.true);
        same_tally = put.same_tally;
      };
    }
  where
    lesser : (key old : ℕ) → key < old → key ≡ min old key
    lesser key old p = omega arith
