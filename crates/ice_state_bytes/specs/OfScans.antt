-- Which contents the manifests of a scan could give.
use Rattle.std.specs.Prelude.{◌≡◌, ℕ, Some, slice_get}
use Rattle.ice_meta.specs.declared.spec.Spec.{Spec}
use Rattle.ice_manifest_reading.specs.declared.row.Row.{Row}
use Rattle.ice_state.specs.Contents.{Content}
use Rattle.ice_state.specs.Readings.{Reading, Good, Bad}
use Rattle.ice_state.specs.Scans.{Scanned, spec_at}
use Rattle.ice_state_sections.specs.Entries.{AreOfRow}

-- entries that the row's manifest may have, or a fault
abbrev pub CouldGive : Row → Spec → Reading → Type 0
CouldGive row spec (Good entries) = AreOfRow row spec entries
CouldGive row spec (Bad fault) = Unit {0}

-- each row that was taken gave what its manifest could give
abbrev pub IsOfScan : Scanned → Content → Type 0
IsOfScan scan c = (i : ℕ) (row : Row) (spec : Spec) (r : Reading) → slice_get scan.wanted i ≡ Some row
    → spec_at scan i ≡ Some spec → slice_get c i ≡ Some (Some r) → CouldGive row spec r
