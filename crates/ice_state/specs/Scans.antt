-- What a scan reads: Apache Iceberg table spec, version 2, "Manifest Lists" and "Scan Planning".
use Rattle.std.specs.Prelude.{◌≡◌, ℕ, ℤ, Bool, false, List, [], ◌∷◌, filter, Option, None, is_none, option_and_then}
use Rattle.std.specs.Prelude.{slice_get, Result, Ok, Err}
use Rattle.std.specs.List.{Contains}
use Rattle.std.specs.Cmp.Lexicographic.{slice_cmp}
use Rattle.std.specs.Ordering.{nat_cmp, is_lt}
use Rattle.contract_words.specs.Sorting.{sorted}
use Rattle.ice_meta.specs.declared.spec.Spec.{Spec}
use Rattle.ice_filter.specs.declared.bound.BoundPredicate.{BoundPredicate}
use Rattle.ice_filter.specs.declared.parts.Part.{Part}
use Rattle.ice_manifest_reading.specs.declared.row.Row.{Row}
use Rattle.ice_state.specs.declared.fault.ScanFault.{ScanFault}
use Rattle.ice_state.specs.declared.fault.ScanFault.TheVariants.{NoSuchSpec}
use Rattle.ice_state.specs.Pruning.{Pruner, pruner_of}
use Rattle.ice_state.specs.Specs.{spec_of, by_id}

-- the wanted rows, by the bytes of their paths, the partition specs of the table, by their ids, and the filter
pub record Scanned : Type 0 where
  pub wanted : List Row
  pub specs : List Spec
  pub filter : List (Part BoundPredicate)

-- the spec of the wanted row i
abbrev pub spec_at : Scanned → ℕ → Option Spec
spec_at scan i = option_and_then (λ row. spec_of scan.specs row.spec_id) (slice_get scan.wanted i)

-- what the scan keeps
abbrev pub pruner : Scanned → Pruner
pruner scan = pruner_of scan.filter scan.specs

-- in the order of their paths
abbrev pub row_before : Row → Row → Bool
row_before a b = is_lt (slice_cmp nat_cmp a.path b.path)

abbrev pub by_row_path : List Row → List Row
by_row_path rows = sorted row_before rows

-- the rows whose spec is missing
abbrev pub without_spec : List Spec → List Row → List Row
without_spec specs rows = filter (λ row. is_none (spec_of specs row.spec_id)) rows

-- each row's spec is there
abbrev pub AllHaveSpec : List Spec → List Row → Type 0
AllHaveSpec specs rows = without_spec specs rows ≡ []

-- the rows that are wanted
abbrev pub wanted_rows : Pruner → List Row → List Row
wanted_rows p rows = filter p.wants rows

abbrev pub unless_missing : List Row → Scanned → Result Scanned ScanFault
unless_missing [] scan = Ok scan
unless_missing (row ∷ rows) scan = Err (NoSuchSpec row.spec_id)

-- the scan of these rows by these specs, with this filter
abbrev pub scan_with : List Row → List Spec → List (Part BoundPredicate) → Scanned
scan_with rows specs parts =
    record { wanted = wanted_rows (pruner_of parts specs) (by_row_path rows); specs = by_id specs; filter = parts }

-- that scan, or the missing spec of the row with the least path
abbrev pub scan_of : List Row → List Spec → List (Part BoundPredicate) → Result Scanned ScanFault
scan_of rows specs parts = unless_missing (without_spec specs (by_row_path rows)) (scan_with rows specs parts)

-- the scan is that of these rows by these specs
abbrev pub IsScanOf : List Row → List Spec → Scanned → Type 0
IsScanOf rows specs scan = scan_of rows specs scan.filter ≡ Ok scan

-- the row with the least path among those whose spec is missing, and that spec's id
pub record IsFirstUnknown (specs : List Spec) (rows : List Row) (id : ℤ) (row : Row) : Type 0 where
  pub among : Contains rows row
  pub named : row.spec_id ≡ id
  pub unknown : spec_of specs id ≡ None
  pub least : (other : Row) → Contains rows other → spec_of specs other.spec_id ≡ None → row_before other row ≡ false
