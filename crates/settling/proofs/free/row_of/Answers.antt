use Rattle.std.proofs.Common.{◌≡◌, ℕ, ◌*◌, ◌/◌, ap, ◌∙◌, arith}
use Rattle.std.proofs.lemmas.Nat.{div-add-mod', mod_below, mul-le}
use Rattle.settling.proofs.Begun.{row_below}
use Rattle.settling.proofs.Inverse.{row_found}
use Rattle.settling.proofs.free.row_of.Goals as goal

pub returns : goal.returns
returns c =
    let w : ℕ = c.args.size.width in
    let k : ℕ = c.args.place in
    let area = mul-le w c.args.size.height 1024 1024 c.args.size.wide c.args.size.tall in
    let e : k * c.args.inverse / 4294967296 ≡ k / w =
    ap (λ (n : ℕ). k * n / 4294967296) c.requires.inverse ∙ row_found k w c.args.size.columns c.args.size.wide (omega (arith, c.requires.on)) in
    let whole = div-add-mod' k w in
    let same : k * c.args.inverse / 4294967296 * w ≡ k / w * w = ap (λ (n : ℕ). n * w) e in
    record {
      row = omega (arith, e, row_below w c.args.size.height k c.args.size.columns c.requires.on);
      starts = omega arith;
      column = omega (arith, mod_below k w c.args.size.columns);
    }
