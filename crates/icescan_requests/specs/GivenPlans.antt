-- The plans of bytes that reads gave: of files that may change from one read to the next.
use Rattle.std.specs.Prelude.{◌≡◌, ℕ, List, [], Option, Some, Ok}
use Rattle.ice_desk.specs.Given.{Giving, IsGiven}
use Rattle.ice_desk.specs.Wanted.{untaken}
use Rattle.ice_filter.specs.declared.bound.BoundPredicate.{BoundPredicate}
use Rattle.ice_filter.specs.declared.parts.Part.{Part}
use Rattle.ice_manifest_reading.specs.declared.row.Row.{Row}
use Rattle.ice_meta.specs.declared.spec.Spec.{Spec}
use Rattle.ice_state.specs.Contents.{Content, IsOf}
use Rattle.ice_state.specs.Lines.{OwnedLine}
use Rattle.ice_state.specs.Outcomes.{outcome}
use Rattle.ice_state.specs.Scans.{Scanned, scan_of}
use Rattle.icescan_print.specs.PlanTexts.{plan_text}
use Rattle.icescan_print.specs.Written.{Appends}
use Rattle.icescan_requests.specs.ListPlans.{specs_of}
use Rattle.icescan_requests.specs.Selections.{selected}
use Rattle.icescan_requests.specs.declared.selected_rows.SelectedRows.{SelectedRows}
use Rattle.icescan_requests.specs.declared.selection.Selection.{Selection}
use Rattle.icescan_text.specs.Reads.{AreRowsGiven}
use Rattle.icescan_text.specs.declared.request.Request.{Request}

-- The plan of these rows: each manifest that their scan wants was read from bytes that a read of its path gave, and the
-- plan is that of what they have.
pub record IsRowsPlanOfGiven (gives : Giving) (specs : List Spec) (filter : List (Part BoundPredicate))
    (rows : List Row)
    (plan : List OwnedLine) : Type 0 where
  pub scan : Scanned
  pub scan_is : scan_of rows specs filter ≡ Ok scan
  pub content : Content
  pub of_scan : IsOf scan content
  pub whole : untaken content scan.wanted ≡ []
  pub given : IsGiven gives scan content
  pub is : outcome scan content ≡ Ok plan

-- The plan of the manifest list at a path: a read of it gave the list, whose rows are planned as those of a table
-- without partitions and filter.
pub record IsListPlanOfGiven (gives : Giving) (list : List ℕ) (plan : List OwnedLine) : Type 0 where
  pub rows : List Row
  pub listed : AreRowsGiven gives list rows
  pub planned : IsRowsPlanOfGiven gives (specs_of rows) [] rows plan

-- The rows that a request selects of the table with this metadata: a read of the manifest list gave it.
pub record AreSelectedOfGiven (gives : Giving) (metadata : List ℕ) (request : Request) (found : SelectedRows)
    : Type 0 where
  pub selection : Selection
  pub asked : selected metadata request ≡ Ok selection
  pub listed : AreRowsGiven gives selection.list found.rows
  pub specs_are : found.specs ≡ selection.specs
  pub filter_is : found.filter ≡ selection.filter

-- The plan that a request asks for of the table with this metadata: a read of the selected manifest list gave the list,
-- and its rows are planned by the selected specs and filter.
pub record IsPlanOfGiven (gives : Giving) (metadata : List ℕ) (request : Request) (plan : List OwnedLine)
    : Type 0 where
  pub selection : Selection
  pub asked : selected metadata request ≡ Ok selection
  pub rows : List Row
  pub listed : AreRowsGiven gives selection.list rows
  pub planned : IsRowsPlanOfGiven gives selection.specs selection.filter.parts rows plan

-- the same of the metadata that a read of a path gave
pub record IsPlanOfGivenAt (gives : Giving) (path : List ℕ) (request : Request) (plan : List OwnedLine)
    : Type 0 where
  pub metadata : List ℕ
  pub read : gives path (Some metadata)
  pub planned : IsPlanOfGiven gives metadata request plan

-- what was written is the text of a plan that is so
abbrev pub WrotePlanThat : (List OwnedLine → Type 0) → Option (List ℕ) → Option (List ℕ) → Type 0
WrotePlanThat so output output' = (plan : List OwnedLine) × so plan × Appends output output' (plan_text plan)
