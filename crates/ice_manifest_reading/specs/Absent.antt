-- What lists and manifests of version 1 have no fields for, as they stand in a table that was upgraded. Apache Iceberg
-- table spec v2, "Appendix E: Format version changes" ("Reading v1 metadata for v2").
use Rattle.std.specs.Prelude.{◌≡◌, ℤ, pos, List, Some, None, Ok, Err}
use Rattle.avro_schema.specs.Tree.{Tree}
use Rattle.avro_file.specs.Picking.{Typed}
use Rattle.ice_value.specs.declared.file_content.FileContent.TheVariants as holds
use Rattle.ice_value.specs.declared.file_bounds.FileBounds.{FileBounds}
use Rattle.ice_meta.specs.declared.spec.PartitionField.{PartitionField}
use Rattle.ice_manifest_fields.specs.declared.fault.FieldFault.TheVariants.{Missing}
use Rattle.ice_manifest_reading.specs.declared.row.Row.{Row}
use Rattle.ice_manifest_reading.specs.declared.row.ManifestContent.{ManifestContent}
use Rattle.ice_manifest_reading.specs.declared.row.ManifestContent.TheVariants.{Data}
use Rattle.ice_manifest_reading.specs.declared.data_file.DataFile.{DataFile}
use Rattle.ice_manifest_fields.specs.Schemas.{fields_in, type_at}
use Rattle.ice_manifest_fields.specs.Fields.{int_or_zero, number_or_zero, optional_long}
use Rattle.ice_manifest_reading.specs.Laws.{SaysRow, SaysFile}

-- an object has no field with this id
abbrev pub Lacks : ℤ → Typed → Type 0
Lacks id x = type_at id (fields_in x.0) ≡ None

-- it has one, of this type
abbrev pub Has : ℤ → Tree → Typed → Type 0
Has id t x = type_at id (fields_in x.0) ≡ Some t

-- what has no field is 0
abbrev pub IsZeroWhereAbsent : Type 0
IsZeroWhereAbsent = (id : ℤ) (x : Typed) → Lacks id x
    → (int_or_zero id x ≡ Ok (pos 0)) × (number_or_zero id x ≡ Ok 0)

-- what has a field, and is null, is refused
abbrev pub IsRefusedWhereNull : Type 0
IsRefusedWhereNull = (id : ℤ) (t : Tree) (x : Typed) → Has id t x → optional_long id x ≡ None
    → (int_or_zero id x ≡ Err (Missing id)) × (number_or_zero id x ≡ Err (Missing id))

-- a row is of data where its list has no field for what its manifest holds, and its number and the least number of its
-- entries are 0 where the list has none for them
abbrev pub HasRowsOfVersionOne : Type 0
HasRowsOfVersionOne = (x : Typed) (r : Row) → SaysRow x r
    → (Lacks (pos 517) x → r.content ≡ Data) × (Lacks (pos 515) x → r.sequence_number ≡ 0)
    × (Lacks (pos 516) x → r.min_sequence_number ≡ 0)

-- a file holds data where its manifest has no field for what it holds, and its row is one of data then
abbrev pub HasFilesOfVersionOne : Type 0
HasFilesOfVersionOne = (of_row : ManifestContent) (ps : List PartitionField) (x : Typed) (d : DataFile) (b : FileBounds)
    → SaysFile of_row ps x d b → Lacks (pos 134) x → (of_row ≡ Data) × (d.content ≡ holds.Data)
