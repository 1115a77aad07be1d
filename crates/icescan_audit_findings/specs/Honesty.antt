-- Files of which all that a manifest says can be true: as far as metadata tell, they are honest about their rows.
use Rattle.std.specs.Prelude.{◌≡◌, ℤ, pos, List, [], ◌∷◌, Some}
use Rattle.std.specs.List.{AllByRecursion, Contains}
use Rattle.ice_value.specs.Columns.{count_of}
use Rattle.ice_value.specs.declared.cell.Cell.{Cell}
use Rattle.ice_value.specs.declared.column_type.ColumnType.{ColumnType}
use Rattle.ice_value.specs.declared.file_bounds.FileBounds.{FileBounds}
use Rattle.ice_transform.specs.Definitions.{IsValueOf}
use Rattle.ice_transform.specs.declared.transform.Transform.TheVariants.{Identity}
use Rattle.ice_manifest_reading.specs.declared.entry.Live.{Live}
use Rattle.ice_manifest_reading.specs.declared.row.Row.{Row}
use Rattle.ice_project.specs.Files.{IsColumn}
use Rattle.icescan_audit_findings.specs.declared.basis.Basis.{Basis}
use Rattle.icescan_audit_findings.specs.declared.basis.TypedColumn.{TypedColumn}
use Rattle.icescan_audit_findings.specs.declared.fields.SourceField.{SourceField}
use Rattle.icescan_audit_findings.specs.FieldFlaws.{sources_of}

-- the file may have these values of the column: the counts and bounds that it is said are theirs, and there are none
-- only where it is said to have none
pub record MayHave (file : FileBounds) (t : ColumnType) (column : ℤ) (cells : List Cell) : Type 0 where
  pub column_is : IsColumn file t column cells
  pub some : cells ≡ [] → count_of column file.value_counts ≡ Some (pos 0)

-- there are values of the column that the file may have
abbrev pub IsHonestColumn : FileBounds → TypedColumn → Type 0
IsHonestColumn file c = (t : ColumnType) → c.column_type ≡ Some t → (cells : List Cell) × MayHave file t c.id cells

-- there are values of the column of an identity field that the file may have, and of which this is the field's value
abbrev pub IsHonestValue : List TypedColumn → FileBounds → SourceField → Cell → Type 0
IsHonestValue columns file f p =
    (c : TypedColumn) (t : ColumnType) → Contains columns c → c.id ≡ f.column → f.column_type ≡ Some t
    → f.transform ≡ Identity
    → (cells : List Cell) × MayHave file t f.column cells × AllByRecursion (λ x. IsValueOf Identity t x p) cells

abbrev pub AreHonestValues : List TypedColumn → FileBounds → List SourceField → List Cell → Type 0
AreHonestValues columns file [] tuple = Unit {0}
AreHonestValues columns file (f ∷ fs) [] = Unit {0}
AreHonestValues columns file (f ∷ fs) (p ∷ tuple) =
    IsHonestValue columns file f p × AreHonestValues columns file fs tuple

-- each column of the schema, and each value of an identity field
abbrev pub IsHonestByMetadata : Basis → Row → Live → Type 0
IsHonestByMetadata basis row l = AllByRecursion (IsHonestColumn l.bounds) basis.typed
    × AreHonestValues basis.typed l.bounds (sources_of basis row) l.entry.file.tuple
