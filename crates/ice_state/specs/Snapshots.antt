-- The plan of a snapshot, over all its rows: Apache Iceberg table spec, version 2, "Scan Planning".
use Rattle.std.specs.Prelude.{◌≡◌, true, List, [], ◌∷◌, ◌++◌, filter, Option, Some, None, option_map, Result, Ok, Err}
use Rattle.std.specs.List.{flat_map, list_any, AllByRecursion}
use Rattle.ice_meta.specs.declared.spec.Spec.{Spec}
use Rattle.ice_manifest_reading.specs.declared.entry.Entry.{Entry}
use Rattle.ice_manifest_reading.specs.declared.entry.Live.{Live}
use Rattle.ice_manifest_reading.specs.Manifests.{entries}
use Rattle.ice_manifest_fields.specs.declared.fault.ManifestFault.{ManifestFault}
use Rattle.ice_manifest_reading.specs.declared.row.Row.{Row}
use Rattle.ice_state.specs.declared.fault.FinishFault.{FinishFault}
use Rattle.ice_state.specs.declared.fault.FinishFault.TheVariants as faults
use Rattle.ice_state.specs.Contents.{World, manifest_of}
use Rattle.ice_state.specs.Lines.{OwnedLine}
use Rattle.ice_state.specs.Outcomes.{by_path, twice, plan_over, first_or}
use Rattle.ice_state.specs.Pruning.{Pruner, keeps, kept}
use Rattle.ice_state.specs.Scans.{by_row_path}

abbrev pub live_or_none : Option (Result (List Live) ManifestFault) → List Live
live_or_none None = []
live_or_none (Some (Err fault)) = []
live_or_none (Some (Ok found)) = found

-- the live entries of a row's manifest, with their bounds: none where it is absent or bad
abbrev pub live : World → List Spec → Row → List Live
live world specs row = live_or_none (option_map (manifest_of specs row) (world row.path))

abbrev pub fault_or_none : Row → Option (Result (List Live) ManifestFault) → List FinishFault
fault_or_none row None = []
fault_or_none row (Some (Err fault)) = faults.Bad row.path fault ∷ []
fault_or_none row (Some (Ok found)) = []

-- that a row's manifest is bad
abbrev pub bad_row : World → List Spec → Row → List FinishFault
bad_row world specs row = fault_or_none row (option_map (manifest_of specs row) (world row.path))

-- each of these rows that has a kept entry is wanted
abbrev pub AreKeptWanted : Pruner → (Row → List Live) → List Row → Type 0
AreKeptWanted p live rows = AllByRecursion (λ row. list_any (keeps p) (live row) ≡ true → p.wants row ≡ true) rows

-- the kept entries of the wanted rows
abbrev pub kept_of_wanted : Pruner → (Row → List Live) → List Row → List Entry
kept_of_wanted p live rows = flat_map (λ row. kept p (live row)) (filter p.wants rows)

-- The fault of the bad wanted row with the least path; else the least path that two kept entries of different origin
-- share; else each kept data file with the live delete files of all rows that apply to it.
abbrev pub plan_of_rows : Pruner → World → List Spec → List Row → Result (List OwnedLine) FinishFault
plan_of_rows p world specs rows =
    let all = flat_map (live world specs) rows in
    let kept_entries = by_path (kept p all) in
    first_or (flat_map (bad_row world specs) (filter p.wants rows) ++ twice kept_entries)
    (plan_over (by_path (entries all)) kept_entries)

abbrev pub plan_of_snapshot : Pruner → World → List Spec → List Row → Result (List OwnedLine) FinishFault
plan_of_snapshot p world specs rows = plan_of_rows p world specs (by_row_path rows)
