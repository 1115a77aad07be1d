-- Rows that are gathered, of which equal ones may be dropped.
use Rattle.std.specs.Prelude.{◌≡◌, ◌≢◌, ◌↔◌, List, Option, Some, None, Result, Ok, Err, Box}
use Rattle.std.specs.Global.{Global}
use Rattle.std.specs.List.{Contains}
use Rattle.ice_manifest_fields.specs.declared.fault.ListFault.{ListFault}
use Rattle.ice_manifest_fields.specs.declared.fault.ListFault.TheVariants.{Memory}
use Rattle.ice_value.specs.declared.file_bounds.Summary.{Summary}
use Rattle.ice_manifest_reading.specs.declared.counts.Counts.{Counts}
use Rattle.ice_manifest_reading.specs.declared.row.Row.{Row}

-- the counts of a row that says none of them
abbrev pub no_counts : Counts
no_counts = record {
  added_files = None;
  existing_files = None;
  deleted_files = None;
  added_rows = None;
  existing_rows = None;
  deleted_rows = None;
}

-- the counts that are kept, which are only where one of them is said
abbrev pub counts_kept : Option (Box Counts Global) → Counts
counts_kept (Some counts) = counts.value
counts_kept None = no_counts

abbrev pub summaries_kept : Option (Box (List Summary) Global) → Option (List Summary)
summaries_kept (Some summaries) = Some summaries.value
summaries_kept None = None

-- the same rows, each as often as may be
abbrev pub AreSame : List Row → List Row → Type 0
AreSame rows others = (r : Row) → (Contains rows r ↔ Contains others r)

-- what was gathered, seen by view, are the rows that reading gives; or its fault is the same, unless memory ran out
abbrev pub Gathers : {X : Type 0} → (X → List Row) → Result X ListFault → Result (List Row) ListFault → Type 0
Gathers view (Ok x) read = (rows : List Row) × (read ≡ Ok rows) × AreSame rows (view x)
Gathers view (Err e) read = e ≢ Memory → read ≡ Err e
