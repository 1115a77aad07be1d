-- What a state finishes with, in words of the wanted rows that it took.
use Rattle.std.specs.Prelude.{◌≡◌, ◌<◌, ℕ, true, false, List, length, slice_get, Some}
use Rattle.ice_manifest_reading.specs.declared.row.Row.{Row}
use Rattle.ice_state.specs.Contents.{Content, is_row_taken}
use Rattle.ice_state.specs.Scans.{Scanned, row_before}

-- the scan wants the row, and the state didn't take it
abbrev pub IsUntaken : Scanned → Content → Row → Type 0
IsUntaken scan c row = (i : ℕ) × (slice_get scan.wanted i ≡ Some row) × (is_row_taken c i ≡ false)

-- of the rows that weren't taken, one with the least path has this path
abbrev pub IsLeastUntaken : Scanned → Content → List ℕ → Type 0
IsLeastUntaken scan c path = (row : Row) × IsUntaken scan c row × (row.path ≡ path)
    × ((other : Row) → IsUntaken scan c other → row_before other row ≡ false)

-- every wanted row was taken
abbrev pub TookAll : Scanned → Content → Type 0
TookAll scan c = (i : ℕ) → i < length scan.wanted → is_row_taken c i ≡ true
