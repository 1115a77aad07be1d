-- The paths of a plan that a request is answered with rise.
use Rattle.std.proofs.Common.{◌≡◌, ℕ, List, ap}
use Rattle.std.specs.Prelude.{Result, Ok, Err}
use Rattle.ice_state.specs.Contents.{World, content, every_row}
use Rattle.ice_state.specs.Lines.{OwnedLine}
use Rattle.ice_state.specs.Outcomes.{outcome}
use Rattle.icescan_changes.proofs.Plans.{plan_by_path}
use Rattle.icescan_changes.specs.Meanings.{IsByPath}
use Rattle.icescan_requests.specs.Plans.{answer_by, rows_plan, scan_in, wanted_answer}
use Rattle.icescan_requests.specs.Selections.{selected}
use Rattle.icescan_text.proofs.Steps.{step}
use Rattle.icescan_text.specs.Faults.{of_finish}
use Rattle.icescan_text.specs.Reads.{all_present, as_run, rows_at}
use Rattle.icescan_text.specs.declared.fault.RunFault.{RunFault}
use Rattle.icescan_text.specs.declared.request.Request.{Request}

as_read : {A E : Type 0} (of : E → RunFault) (read : Result A E) (x : A) → as_run of read ≡ Ok x → read ≡ Ok x
as_read of (Ok y) x h = let e : y ≡ x = cc in ap Ok e
as_read of (Err e) x h = cc

pub answered_by_path : (world : World) (metadata : List ℕ) (request : Request) (plan : List OwnedLine)
    → wanted_answer world metadata request ≡ Ok plan → IsByPath plan
unfolding answer_by rows_plan
answered_by_path world metadata request plan h =
    let asked = step (selected metadata request) _ plan h in
    let rows = step (rows_at world asked.0.list) _ plan asked.2 in
    let scan = step (scan_in asked.0.specs asked.0.filter.parts rows.0) _ plan rows.2 in
    let there = step (all_present world scan.0.wanted) _ plan scan.2 in
    let made = content world scan.0 (every_row scan.0) in
    plan_by_path scan.0 made plan (as_read of_finish (outcome scan.0 made) plan there.2)
