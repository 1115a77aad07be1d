-- The plan of a snapshot that a manifest list names: Apache Iceberg table spec, version 2, "Scan Planning". No metadata
-- is read, so each row's spec is taken as one without fields, and nothing is filtered.
use Rattle.std.specs.Prelude.{ℕ, List, [], ◌∷◌, map, Result, Ok, Err}
use Rattle.contract_words.specs.Outcome.{◌>>=◌}
use Rattle.ice_desk.specs.Wanted.{paths_of}
use Rattle.ice_state.specs.Contents.{World}
use Rattle.ice_meta.specs.declared.spec.Spec.{Spec}
use Rattle.ice_meta.specs.Partitioning.{without_fields}
use Rattle.ice_manifest_reading.specs.declared.row.Row.{Row}
use Rattle.ice_state.specs.Lines.{OwnedLine}
use Rattle.ice_state.specs.Pruning.{everything}
use Rattle.ice_state.specs.Scans.{Scanned, scan_of}
use Rattle.ice_state.specs.Snapshots.{plan_of_snapshot}
use Rattle.icescan_text.specs.Faults.{of_finish, of_scan}
use Rattle.icescan_text.specs.Reads.{all_present, as_run, rows_at}
use Rattle.icescan_text.specs.declared.fault.RunFault.{RunFault}

-- for each row a spec without fields, of the row's spec id
abbrev pub specs_of : List Row → List Spec
specs_of rows = map (λ row. without_fields row.spec_id) rows

unfoldable pub list_scan : List Row → Result Scanned RunFault
list_scan rows = as_run of_scan (scan_of rows (specs_of rows) [])

unfoldable pub plan_in : World → List Row → Result (List OwnedLine) RunFault
plan_in world rows = as_run of_finish (plan_of_snapshot everything world (specs_of rows) rows)

-- The plan of the list at a path, or the first refusal: there is no such list, it can't be read, there is no scan of
-- its rows, a wanted manifest is absent (that of the least path: the wanted rows stand in the order of their paths), or
-- the rows have no plan.
unfoldable pub list_answer : World → List ℕ → Result (List OwnedLine) RunFault
list_answer world list = do
  rows ← rows_at world list
  scan ← list_scan rows
  _ ← all_present world scan.wanted
  plan_in world rows

-- the manifests that are wanted of a scan: none where there is no scan
abbrev pub wanted_of : Result Scanned RunFault → List (List ℕ)
wanted_of (Ok scan) = paths_of scan.wanted
wanted_of (Err fault) = []

-- the scan of the list at a path
unfoldable pub scan_at : World → List ℕ → Result Scanned RunFault
scan_at world list = rows_at world list >>= list_scan

-- the paths that are read, in this order: the list's, and then those of the wanted manifests
unfoldable pub list_reads : World → List ℕ → List (List ℕ)
list_reads world list = list ∷ wanted_of (scan_at world list)
