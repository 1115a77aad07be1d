-- The rows of two snapshots that are planned to tell the changes from one to the other.
use Rattle.std.specs.Prelude.{Bool, true, false, ◌&&◌, ℕ, List, ◌++◌, is_none, Result, Ok}
use Rattle.contract_words.specs.Outcome.{◌>>=◌}
use Rattle.ice_manifest_reading.specs.declared.row.Row.{Row}
use Rattle.ice_state.specs.Contents.{World}
use Rattle.icescan_requests.specs.Plans.{list_of, selected_rows}
use Rattle.icescan_requests.specs.Selections.{selected}
use Rattle.icescan_requests.specs.declared.selected_rows.SelectedRows.{SelectedRows}
use Rattle.icescan_text.specs.declared.fault.RunFault.{RunFault}
use Rattle.icescan_text.specs.declared.request.ChangesRequest.{ChangesRequest}
use Rattle.icescan_shared_manifests.specs.Shared.{have_same_deletes, unshared}
use Rattle.icescan_shared_manifests.specs.declared.both_rows.BothRows.{BothRows}

-- neither request has a filter
abbrev pub is_unfiltered : ChangesRequest → Bool
is_unfiltered request = is_none request.earlier.filter && is_none request.later.filter

-- what both lists share is left out of both
abbrev pub leaves_out : ChangesRequest → SelectedRows → SelectedRows → Bool
leaves_out request earlier later = is_unfiltered request && have_same_deletes earlier.rows later.rows

-- the rows that are not among the others too
abbrev pub without_shared : List Row → SelectedRows → SelectedRows
without_shared others s =
    record { rows = unshared others s.rows; specs = s.specs; filter = s.filter }

-- the rows that are planned of both
abbrev pub planned_of : Bool → SelectedRows → SelectedRows → BothRows
planned_of true earlier later =
    record { earlier = without_shared later.rows earlier; later = without_shared earlier.rows later }
planned_of false earlier later = record { earlier = earlier; later = later }

-- Those of the lists that two requests select of a table, or the first refusal: that of the earlier list, else that of
-- the later.
unfoldable pub both_rows : World → List ℕ → ChangesRequest → Result BothRows RunFault
both_rows world metadata request = do
  earlier ← selected_rows world metadata request.earlier
  later ← selected_rows world metadata request.later
  Ok (planned_of (leaves_out request earlier later) earlier later)

-- the paths of both lists, in the order in which they are read
abbrev pub both_lists : List ℕ → ChangesRequest → List (List ℕ)
both_lists metadata request = list_of (selected metadata request.earlier) ++ list_of (selected metadata request.later)
