-- What a scan that is pinned to a version reads: Apache Iceberg table spec, version 2, "Snapshots", "Manifest Lists"
-- and "Scan Planning".
use Rattle.std.specs.Prelude.{List, Option, Some, None, Result, Ok, Err}
use Rattle.std.specs.FinMap.{get}
use Rattle.contract_words.specs.Outcome.{◌>>=◌}
use Rattle.ice_filter.specs.Binding.{bound_parts}
use Rattle.ice_filter.specs.declared.fault.FilterFault.{FilterFault}
use Rattle.ice_filter.specs.declared.fault.FilterFault.TheVariants as filter
use Rattle.ice_filter.specs.declared.predicate.Predicate.{Predicate}
use Rattle.ice_filter.specs.declared.parts.Part.{Part}
use Rattle.ice_manifest_reading.specs.Lists.{rows_of}
use Rattle.ice_manifest_fields.specs.declared.fault.ListFault.{ListFault}
use Rattle.ice_manifest_fields.specs.declared.fault.ListFault.TheVariants as list
use Rattle.ice_manifest_reading.specs.declared.row.Row.{Row}
use Rattle.ice_meta.specs.Targets.{bound_specs, list_of, schema_for}
use Rattle.ice_meta.specs.declared.fault.MetaFault.{MetaFault}
use Rattle.ice_meta.specs.declared.fault.MetaFault.TheVariants as meta
use Rattle.ice_meta.specs.declared.metadata.Target.TheVariants.{Main}
use Rattle.ice_state.specs.Scans.{Scanned, scan_of}
use Rattle.ice_state.specs.declared.fault.ScanFault.{ScanFault}
use Rattle.ice_state.specs.declared.fault.ScanFault.TheVariants as scan
use Rattle.ice_catalog_versions.specs.States.{State}
use Rattle.ice_catalog.specs.declared.pinning.PinFault.{PinFault}
use Rattle.ice_catalog.specs.declared.pinning.PinFault.TheVariants.{Refused, Memory}

-- whatever the fault is, there is no scan; only a lack of memory is told apart
abbrev pub of_meta : MetaFault → PinFault
of_meta meta.Memory = Memory
of_meta fault = Refused

abbrev pub of_list : ListFault → PinFault
of_list list.Memory = Memory
of_list fault = Refused

abbrev pub of_filter : FilterFault → PinFault
of_filter filter.Memory = Memory
of_filter fault = Refused

abbrev pub of_scan : ScanFault → PinFault
of_scan scan.Memory = Memory
of_scan fault = Refused

-- a part's answer, with its fault so
abbrev pub as_pin : {A E : Type 0} → (E → PinFault) → Result A E → Result A PinFault
as_pin of (Ok x) = Ok x
as_pin of (Err e) = Err (of e)

-- what has to be there
abbrev pub there : {A : Type 0} → Option A → Result A PinFault
there None = Err Refused
there (Some x) = Ok x

-- the rows of the current snapshot: of its manifest list, which has to be among the files
unfoldable pub rows_in : State → Result (List Row) PinFault
rows_in state = do
  path ← as_pin of_meta (list_of Main state.metadata.table)
  bytes ← there (get state.world path)
  as_pin of_list (rows_of bytes)

-- the scan of these rows under a filter of the current schema's columns
unfoldable pub scan_in : State → List (Part Predicate) → Result Scanned PinFault
scan_in state parts = do
  rows ← rows_in state
  schema ← there (schema_for Main state.metadata.table)
  bound ← as_pin of_filter (bound_parts schema parts)
  as_pin of_scan (scan_of rows (bound_specs schema state.metadata.table) bound)
