-- Where the columns stand of which a manifest says something of a file.
use Rattle.std.specs.Prelude.{◌≡◌, ◌⊎◌, ◌<◌, ℕ, ℤ, List, [], None, Some, length, get_or}
use Rattle.std.specs.List.{Contains}
use Rattle.ice_value.specs.Pairs.{last_of}
use Rattle.ice_value.specs.declared.file_bounds.FileBounds.{FileBounds}
use Rattle.icescan_audit_findings.specs.ColumnFlaws.{column_flaws}
use Rattle.icescan_audit_findings.specs.declared.basis.TypedColumn.{TypedColumn}

-- each column's id stands beside the column's place
abbrev pub HasPlaces : List TypedColumn → List (ℤ × ℕ) → Type 0
HasPlaces columns places =
    (k : ℕ) (d : TypedColumn) → k < length columns → Contains places ((get_or columns k d).id, k)

-- by its id each column is found at its place
abbrev pub FindsEach : List TypedColumn → List (ℤ × ℕ) → Type 0
FindsEach columns places =
    (k : ℕ) (d : TypedColumn) → k < length columns → last_of (get_or columns k d).id places ≡ Some k

-- among the places that were found are those of all ids of which the pairs say something
abbrev pub HasPlacesOf : {T : Type 0} → List (ℤ × ℕ) → List (ℤ × T) → List ℕ → Type 0
HasPlacesOf places pairs found =
    (id : ℤ) (k : ℕ) → last_of id places ≡ Some k → (last_of id pairs ≡ None) ⊎ Contains found k

-- among them are those of all columns of which something is wrong
abbrev pub HasFlawed : FileBounds → List TypedColumn → List ℕ → Type 0
HasFlawed file columns found = (k : ℕ) (d : TypedColumn) → k < length columns → (Contains found k → ⊥)
    → column_flaws file (get_or columns k d) ≡ []
