-- What is known of a call to which no refusal is due.
use Rattle.std.proofs.Common.{◌≡◌, ℕ, ◌<◌, Bool, ◌||◌, leb, List, None, Option, sym, refl, arith}
use Rattle.std.proofs.lemmas.Bool.Decides.{nat_tests}
use Rattle.std.proofs.lemmas.Option.{none-some}
use Rattle.sheet.specs.declared.order.Order.{Order}
use Rattle.sheet.specs.declared.refusal.Refusal.{Refusal}
use Rattle.sheet.specs.declared.refusal.Refusal.TheVariants.{OutOfRange}
use Rattle.sheet.specs.declared.size.Size.{Size}
use Rattle.sheet.specs.Refusals.{passed}
use Rattle.metric.specs.Model.{Model}
use Rattle.erosion.specs.Memory.{Fits, On}
use Rattle.settling.specs.Orders.{settle_refusal}
use Rattle.sheets.specs.Calls.{pixel_refusal}
use Rattle.sheets.proofs.Checks.{check_passed, memory_passed}
use Rattle.bench.specs.declared.held.State.{State}
use Rattle.bench.specs.declared.held.State.TheVariants.{Open, Settled}
use Rattle.bench.specs.Calls.{Request, Scene, in_state, wants, sheet_refusal, refusal_of}

state_passed : (wanted state : State) (rest : Option Refusal) → in_state wanted state rest ≡ None → (state ≡ wanted) × (rest ≡ None)
state_passed Open Open rest e = (refl, e)
state_passed Open Settled rest e = absurd (none-some _ (sym e))
state_passed Settled Open rest e = absurd (none-some _ (sym e))
state_passed Settled Settled rest e = (refl, e)

-- the bench is in the state that the call wants, and the same call on a sheet is not refused
pub call_passed : (s : Scene) (request : Request) → refusal_of s request ≡ None → (s.bench.state ≡ wants request) × (sheet_refusal s request ≡ None)
call_passed s request e = state_passed (wants request) s.bench.state (sheet_refusal s request) e

-- the memory is long enough, and the pixel is on the sheet
pub pixel_passed : (size : Size) (memory : List ℕ) (row column : ℕ) → pixel_refusal size memory row column ≡ None → Fits size memory × On size row column
pixel_passed size memory row column e =
    let p = memory_passed size memory _ e in
    let on = (check_passed (leb size.height row || leb size.width column) OutOfRange passed p.1).0 in
    let r : row < size.height = grind (arith, nat_tests) in
    let c : column < size.width = grind (arith, nat_tests) in
    (p.0, (r, c))

-- picture and keys are long enough
pub settle_passed : (order : Order) (m : Model) (size : Size) (picture keys spare : List ℕ) (waits : List Bool) → settle_refusal order m size picture keys spare waits ≡ None → Fits size picture × Fits size keys
settle_passed order m size picture keys spare waits e =
    let p = memory_passed size picture _ e in
    let q = memory_passed size keys _ p.1 in
    (p.0, q.0)
