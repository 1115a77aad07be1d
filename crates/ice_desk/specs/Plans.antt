-- The plan of a scan by workers.
use Rattle.std.specs.Prelude.{◌≡◌, ℕ, ◌<◌, ◌≤◌, Bool, ◌||◌, nat_lt, IsTrue, List, Option}
use Rattle.std.specs.Prelude.{Some, Result, Ok, Err, length, ◌^◌, ◌*◌}
use Rattle.std.specs.List.{All}
use Rattle.ice_state.specs.Contents.{Content, World, IsOf, is_row_taken}
use Rattle.ice_state.specs.Lines.{OwnedLine}
use Rattle.ice_state.specs.Scans.{Scanned}
use Rattle.ice_state.specs.declared.fault.FinishFault.{FinishFault}
use Rattle.ice_desk.specs.declared.desk.Desk.{Desk}
use Rattle.ice_desk.specs.declared.desk.Seat.{Seat}
use Rattle.ice_desk.specs.declared.fault.PlanFault.{PlanFault}
use Rattle.ice_desk.specs.declared.fault.PlanFault.TheVariants as plan
use Rattle.ice_desk.specs.declared.left.Left.{Left}
use Rattle.ice_desk.specs.Left.{all_left, failed}
use Rattle.ice_desk.specs.Seats.{IsFresh, IsSeatOf, had_done, drawn_in, marked_in, seen_in}
use Rattle.ice_desk.specs.Tickets.{times}
use Rattle.ice_desk.specs.Wanted.{IsContentOf}
use Rattle.ice_desk.specs.Works.{Lacks, MayFailAt, missed}
use Rattle.ice_desk.specs.Worlds.{EndsAt, EndsAtAbsent}

-- seats of a desk for the scan's manifests, from which nothing was drawn
abbrev pub AreReady : Desk → Scanned → List Seat → Type 0
AreReady desk scan seats = All (IsSeatOf desk) seats × All IsFresh seats × (desk.manifests ≡ length scan.wanted)

-- what the workers of these seats did, who began with nothing
pub record AreServed (world : Option World) (may_fail : List ℕ → Type 0) (desk : Desk) (scan : Scanned)
    (seats : List Seat) (state : Content) (left : Left) : Type 0 where
  pub each : All (IsSeatOf desk) seats
  pub done : All (λ s. IsTrue (had_done desk s)) seats
  -- the numbers that they drew together
  pub tickets : List ℕ
  pub drawn : (t : ℕ) → drawn_in seats t ≡ times t tickets
  pub of_scan : IsOf scan state
  -- what they took is there
  pub content : (w : World) → world ≡ Some w → (ts : List Bool) × IsContentOf w scan state ts
  -- each ticket whose manifest is not taken, and was not seen marked, was left because a read or a take failed
  pub missed : missed desk (λ i. is_row_taken state i || nat_lt 0 (seen_in seats i)) tickets ≤ failed left
  -- what they marked is taken
  pub marked : (i : ℕ) → 0 < marked_in seats i → IsTrue (is_row_taken state i)
  pub small : all_left left ≤ 2 ^ 32 * length seats
  -- only a manifest whose file is not there was left as absent, and only one whose read may fail for a failed read
  pub absent : 0 < left.absent → (i : ℕ) × Lacks world scan i
  pub device : 0 < left.device → (i : ℕ) × MayFailAt may_fail scan i

-- Where reading these paths, those of the wanted manifests, ends: at the first that is not there, or at one whose read
-- may fail, and those before it are there. Other faults don't speak of reading.
abbrev pub MayStopPlan : World → (List ℕ → Type 0) → List (List ℕ) → PlanFault → Type 0
MayStopPlan world may_fail paths (plan.Absent path) = EndsAtAbsent world paths path
MayStopPlan world may_fail paths (plan.Device path) = EndsAt world may_fail paths path
MayStopPlan world may_fail paths (plan.Finish fault) = Unit {0}
MayStopPlan world may_fail paths plan.Memory = Unit {0}
MayStopPlan world may_fail paths plan.Workers = Unit {0}

-- where there is a plan, or a fault of finishing, which is one of a state that took all
abbrev pub IfFinished : {X : Type 0} → Result X PlanFault → Type 0 → Type 0
IfFinished (Ok x) fact = fact
IfFinished (Err (plan.Finish fault)) fact = fact
IfFinished (Err (plan.Absent path)) fact = Unit {0}
IfFinished (Err (plan.Device path)) fact = Unit {0}
IfFinished (Err plan.Memory) fact = Unit {0}
IfFinished (Err plan.Workers) fact = Unit {0}

-- a plan, seen by view, is what finishing gives, and so is a fault of finishing
abbrev pub GivesPlan : {X : Type 0} → (X → List OwnedLine) → Result X PlanFault → Result (List OwnedLine) FinishFault →
    Type 0
GivesPlan view (Ok x) outcome = outcome ≡ Ok (view x)
GivesPlan view (Err (plan.Finish fault)) outcome = outcome ≡ Err fault
GivesPlan view (Err (plan.Absent path)) outcome = Unit {0}
GivesPlan view (Err (plan.Device path)) outcome = Unit {0}
GivesPlan view (Err plan.Memory) outcome = Unit {0}
GivesPlan view (Err plan.Workers) outcome = Unit {0}
