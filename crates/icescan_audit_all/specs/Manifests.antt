-- How many different manifests the snapshots of a table have.
use Rattle.std.specs.Prelude.{ℕ, ◌+◌, Bool, true, not, List, [], ◌∷◌, Option, Some, None}
use Rattle.std.specs.List.{flat_map}
use Rattle.std.specs.Str.{bytes_eq}
use Rattle.ice_manifest_reading.specs.declared.row.Row.{Row}
use Rattle.ice_state.specs.Scans.{by_row_path}
use Rattle.icescan_audit_all.specs.Lines.{one_if}
use Rattle.icescan_audit_all.specs.declared.audits.SnapshotAudit.{SnapshotAudit}

-- a row of another manifest than the one before it
abbrev pub is_other : Option Row → Row → Bool
is_other None row = true
is_other (Some before) row = not (bytes_eq before.path row.path)

-- how many different manifests rows in the order of their paths have, behind the row before them
abbrev pub number_in : Option Row → List Row → ℕ
number_in before [] = 0
number_in before (row ∷ rows) = one_if (is_other before row) + number_in (Some row) rows

abbrev pub rows_of : List SnapshotAudit → List Row
rows_of audits = flat_map (λ (a : SnapshotAudit). a.rows) audits

abbrev pub number_of_manifests : List SnapshotAudit → ℕ
number_of_manifests audits = number_in None (by_row_path (rows_of audits))
