-- What is known once a check has passed.
use Rattle.std.proofs.Common.{◌≡◌, ℕ, Bool, true, false, List, None, Option, sym, refl, arith}
use Rattle.std.proofs.lemmas.Option.{none-some}
use Rattle.std.proofs.lemmas.Bool.Decides.{nat_tests}
use Rattle.sheet.specs.declared.refusal.Refusal.{Refusal}
use Rattle.sheet.specs.declared.size.Size.{Size}
use Rattle.sheet.specs.Refusals.{check}
use Rattle.erosion.specs.Memory.{Fits, needs_memory}

-- the check has not failed, and the rest has passed
pub check_passed : (fails : Bool) (refusal : Refusal) (rest : Option Refusal) → check fails refusal rest ≡ None → (fails ≡ false) × (rest ≡ None)
check_passed true refusal rest e = absurd (none-some refusal (sym e))
check_passed false refusal rest e = (refl, e)

-- the memory is long enough
pub memory_passed : (size : Size) (memory : List ℕ) (rest : Option Refusal) → needs_memory size memory rest ≡ None → Fits size memory × (rest ≡ None)
memory_passed size memory rest e =
    let p = check_passed _ _ rest e in
    let enough : Fits size memory = grind (arith, nat_tests) in
    (enough, p.1)
