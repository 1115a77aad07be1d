-- The plan of a table's snapshot under a filter: Apache Iceberg table spec, version 2, "Scan Planning".
use Rattle.std.specs.Prelude.{◌≡◌, ◌≢◌, ℕ, List, [], ◌∷◌, Option, None, Some, Result, Ok, Err, OnOk, IfErr, IfOk}
use Rattle.std.specs.Prelude.{IsErrOf}
use Rattle.contract_words.specs.Outcome.{◌>>=◌}
use Rattle.ice_desk.specs.Worlds.{EndsAt, HasAt}
use Rattle.ice_filter.specs.declared.bound.BoundPredicate.{BoundPredicate}
use Rattle.ice_filter.specs.declared.parts.Part.{Part}
use Rattle.ice_manifest_reading.specs.declared.row.Row.{Row}
use Rattle.ice_meta.specs.declared.spec.Spec.{Spec}
use Rattle.ice_state.specs.Contents.{World, content, every_row}
use Rattle.ice_state.specs.Covering.{AreCovered}
use Rattle.ice_state.specs.Lines.{OwnedLine}
use Rattle.ice_state.specs.Outcomes.{outcome}
use Rattle.ice_state.specs.Pruning.{pruner_of}
use Rattle.ice_state.specs.Scans.{Scanned, scan_of}
use Rattle.ice_state.specs.Snapshots.{plan_of_snapshot}
use Rattle.ice_state.specs.declared.fault.FinishFault.{FinishFault}
use Rattle.icescan_text.specs.Faults.{of_finish, of_scan}
use Rattle.icescan_text.specs.Reads.{MayEnd, all_present, as_run, file_in, rows_at}
use Rattle.icescan_text.specs.Workers.{by_workers}
use Rattle.icescan_requests.specs.ListPlans.{wanted_of}
use Rattle.icescan_print.specs.PlanTexts.{plan_text}
use Rattle.icescan_requests.specs.Selections.{selected}
use Rattle.icescan_print.specs.Written.{Appends, AppendsFront}
use Rattle.icescan_text.specs.declared.fault.RunFault.{RunFault}
use Rattle.icescan_text.specs.declared.fault.RunFault.TheVariants as run
use Rattle.icescan_text.specs.declared.request.Request.{Request}
use Rattle.icescan_requests.specs.declared.selected_rows.SelectedRows.{SelectedRows}
use Rattle.icescan_requests.specs.declared.selection.Selection.{Selection}

-- ---- the plan of a list's rows

-- what the rows of a scan come to
abbrev pub Ending : Type 0
Ending = World → List Spec → List (Part BoundPredicate) → List Row → Scanned → Result (List OwnedLine) FinishFault

-- the plan of the snapshot, over all its rows
abbrev pub over_all_rows : Ending
over_all_rows world specs filter rows scan = plan_of_snapshot (pruner_of filter specs) world specs rows

-- the plan of what the wanted rows have, and of nothing else
abbrev pub over_wanted_rows : Ending
over_wanted_rows world specs filter rows scan = outcome scan (content world scan (every_row scan))

abbrev pub scan_in : List Spec → List (Part BoundPredicate) → List Row → Result Scanned RunFault
scan_in specs filter rows = as_run of_scan (scan_of rows specs filter)

-- The plan of these rows, or the first refusal: a row's spec is missing, a wanted manifest is absent (that of the least
-- path: the wanted rows stand in the order of their paths), or the rows have no plan.
unfoldable pub rows_plan : Ending → World → List Spec → List (Part BoundPredicate) → List Row
    → Result (List OwnedLine) RunFault
rows_plan ending world specs filter rows = do
  scan ← scan_in specs filter rows
  _ ← all_present world scan.wanted
  as_run of_finish (ending world specs filter rows scan)

-- the paths of the wanted manifests, in the order in which they are read
unfoldable pub manifests : List Spec → List (Part BoundPredicate) → List Row → List (List ℕ)
manifests specs filter rows = wanted_of (scan_in specs filter rows)

-- What planning rows gives where the world is told: the plan of what the wanted ones have, or its refusal; or another
-- fault, where memory ran out or one of the reads failed that may.
abbrev pub PlansRows : Option World → (List ℕ → Type 0) → SelectedRows → Result (List OwnedLine) RunFault → Type 0
PlansRows told may_fail x result = (world : World) → told ≡ Some world →
    IfOk result (λ plan. rows_plan over_wanted_rows world x.specs x.filter.parts x.rows ≡ Ok plan)
    × IfErr result (MayEnd (rows_plan over_wanted_rows world x.specs x.filter.parts x.rows)
    (EndsAt world may_fail (manifests x.specs x.filter.parts x.rows)) ⊥)

-- ---- the plan that a request asks for

-- The rows of the manifest list that a request selects, with what is asked of them, or the first refusal: what the
-- request asks can't be asked of the metadata, there is no manifest list, or it can't be read.
unfoldable pub selected_rows : World → List ℕ → Request → Result SelectedRows RunFault
selected_rows world metadata request = do
  selection ← selected metadata request
  rows ← rows_at world selection.list
  Ok (record { rows = rows; specs = selection.specs; filter = selection.filter })

-- the path of the list that was selected
abbrev pub list_of : Result Selection RunFault → List (List ℕ)
list_of (Ok selection) = selection.list ∷ []
list_of (Err fault) = []

-- The plan, or the first refusal: what the request asks can't be asked of the metadata, there is no manifest list, it
-- can't be read, or its rows have no plan.
unfoldable pub answer_by : Ending → World → List ℕ → Request → Result (List OwnedLine) RunFault
answer_by ending world metadata request = do
  selection ← selected metadata request
  rows ← rows_at world selection.list
  rows_plan ending world selection.specs selection.filter.parts rows

-- what a request on a table is answered: the plan over all rows of the snapshot
abbrev pub answer : World → List ℕ → Request → Result (List OwnedLine) RunFault
answer = answer_by over_all_rows

-- the same over the wanted rows alone
abbrev pub wanted_answer : World → List ℕ → Request → Result (List OwnedLine) RunFault
wanted_answer = answer_by over_wanted_rows

-- the summaries of all rows of the snapshot tell the truth; then both are the same
abbrev pub TellsTheTruth : World → List ℕ → Request → Type 0
TellsTheTruth world metadata request =
    (selection : Selection) (rows : List Row) → selected metadata request ≡ Ok selection → rows_at world selection.list
    ≡ Ok rows →
    AreCovered world selection.specs rows

-- the paths that are read, in this order: the list's, and then those of the wanted manifests
abbrev pub manifests_of : Selection → Result (List Row) RunFault → List (List ℕ)
manifests_of selection (Ok rows) = manifests selection.specs selection.filter.parts rows
manifests_of selection (Err fault) = []

abbrev pub reads_of : World → Result Selection RunFault → List (List ℕ)
reads_of world (Ok selection) = selection.list ∷ manifests_of selection (rows_at world selection.list)
reads_of world (Err fault) = []

unfoldable pub reads : World → List ℕ → Request → List (List ℕ)
reads world metadata request = reads_of world (selected metadata request)

-- the same of the metadata in the file at a path, by so many workers; their number comes before all else
unfoldable pub answer_at : Ending → World → List ℕ → Request → ℕ → Result (List OwnedLine) RunFault
answer_at ending world path request workers =
    by_workers workers (file_in world path >>= λ metadata. answer_by ending world metadata request)

-- the summaries of all rows of its snapshot tell the truth, where there is such a file
abbrev pub TellsTheTruthAt : World → List ℕ → Request → Type 0
TellsTheTruthAt world path request =
    (metadata : List ℕ) → file_in world path ≡ Ok metadata → TellsTheTruth world metadata request

abbrev pub reads_behind : World → Request → Result (List ℕ) RunFault → List (List ℕ)
reads_behind world request (Ok metadata) = reads world metadata request
reads_behind world request (Err fault) = []

unfoldable pub reads_at : World → List ℕ → Request → List (List ℕ)
reads_at world path request = path ∷ reads_behind world request (file_in world path)

-- ---- what is written

-- the text of the plan, or a front of it
abbrev pub WrotePlan : Result (List OwnedLine) RunFault → Option (List ℕ) → Option (List ℕ) → Type 0
WrotePlan read output output' = (plan : List OwnedLine) × (read ≡ Ok plan) × Appends output output' (plan_text plan)

abbrev pub WrotePlanFront : Result (List OwnedLine) RunFault → Option (List ℕ) → Option (List ℕ) → Type 0
WrotePlanFront read output output' = (plan : List OwnedLine) × (read ≡ Ok plan)
    × AppendsFront output output' (plan_text plan)

-- What a run gives, where this is the answer over files that tell their world: the text of the plan is written, or the
-- fault is the answer's, or one of reading at these paths in turn, of writing or of memory.
pub record Answers (read : Result (List OwnedLine) RunFault) (may_fail_at : List ℕ → Type 0) (write_may_fail : Type 0)
    (result : Result Unit RunFault) (output output' : Option (List ℕ)) : Type 0 where
  pub written : OnOk result (WrotePlan read output output')
  pub refused : IfErr result (MayEnd read may_fail_at write_may_fail)
  pub front : IsErrOf result run.Write → WrotePlanFront read output output'

-- What was written, whatever the files tell of themselves: the text of a plan, and after a failed write a front of one.
pub record WritesAPlan (result : Result Unit RunFault) (output output' : Option (List ℕ)) : Type 0 where
  pub all : OnOk result ((plan : List OwnedLine) × Appends output output' (plan_text plan))
  pub front : IsErrOf result run.Write → (plan : List OwnedLine) × AppendsFront output output' (plan_text plan)

-- What a refusal tells over any files: nothing was written but after a failed write, a file that is called absent is
-- not there, a read failed at a path where it may, and a write failed that may fail.
pub record OnRefusal (world : Option World) (may_fail_at : List ℕ → Type 0) (write_may_fail : Type 0)
    (result : Result Unit RunFault) (output output' : Option (List ℕ)) : Type 0 where
  pub nothing : IfErr result (λ fault. fault ≢ run.Write → output' ≡ output)
  pub absent : (path : List ℕ) → IsErrOf result (run.Absent path) → HasAt world path None
  pub device : (path : List ℕ) → IsErrOf result (run.Device path) → may_fail_at path
  pub write : IsErrOf result run.Write → write_may_fail
