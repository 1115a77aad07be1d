-- The data that are written for rows and entries (Apache Iceberg table spec v2, "Manifest Lists", "Manifests" and
-- "Appendix A: Avro"): the values of the fields of `WrittenSchemas`, in their order.
use Rattle.std.specs.Prelude.{ℕ, ℤ, pos, List, [], ◌∷◌, map, Option, Some, None}
use Rattle.avro_file.specs.Value.{Value, nothing, truth, small, whole, text, run, raw, fields, items, chosen, values_of}
use Rattle.ice_value.specs.declared.cell.Cell.{Cell}
use Rattle.ice_value.specs.declared.cell.Cell.TheVariants as cell
use Rattle.ice_value.specs.declared.column_type.ColumnType.{ColumnType}
use Rattle.ice_value.specs.declared.column_type.ColumnType.TheVariants as column
use Rattle.ice_value.specs.declared.file_content.FileContent.{FileContent}
use Rattle.ice_value.specs.declared.file_content.FileContent.TheVariants as holds
use Rattle.ice_value.specs.declared.file_bounds.Summary.{Summary}
use Rattle.ice_manifest_reading.specs.declared.row.Row.{Row}
use Rattle.ice_manifest_reading.specs.declared.row.ManifestContent.{ManifestContent}
use Rattle.ice_manifest_reading.specs.declared.row.ManifestContent.TheVariants.{Data, Deletes}
use Rattle.ice_manifest.specs.declared.new_file.NewFile.{NewFile}
use Rattle.ice_manifest.specs.declared.heading.Heading.{Heading}

abbrev pub no_value : Value
no_value = chosen 0 nothing

-- null, or the value
abbrev pub if_some : {A : Type 0} → (A → Value) → Option A → Value
if_some value None = no_value
if_some value (Some x) = chosen 1 (value x)

-- ---- rows

abbrev pub summary_value : Summary → Value
summary_value s =
    fields (values_of (
    truth s.contains_null ∷ if_some truth s.contains_nan ∷ if_some run s.lower ∷ if_some run s.upper ∷ []))

abbrev pub summaries_value : List Summary → Value
summaries_value ss = items (values_of (map summary_value ss))

abbrev pub row_content : ManifestContent → ℤ
row_content Data = pos 0
row_content Deletes = pos 1

-- the counts, and the summaries behind them
abbrev pub count_values : Row → List Value
count_values r =
    if_some small r.counts.added_files
    ∷ if_some small r.counts.existing_files
    ∷ if_some small r.counts.deleted_files
    ∷ if_some whole r.counts.added_rows
    ∷ if_some whole r.counts.existing_rows
    ∷ if_some whole r.counts.deleted_rows
    ∷ if_some summaries_value r.partitions
    ∷ []

unfoldable pub row_value : Row → Value
row_value r =
    fields (values_of (
    text r.path
    ∷ whole r.length
    ∷ small r.spec_id
    ∷ small (row_content r.content)
    ∷ whole (pos r.sequence_number)
    ∷ whole (pos r.min_sequence_number)
    ∷ whole r.added_snapshot_id
    ∷ count_values r
    ))

-- ---- entries

abbrev pub whole_value : ColumnType → ℤ → Value
whole_value column.Int z = small z
whole_value column.Date z = small z
whole_value t z = whole z

abbrev pub bytes_value : ColumnType → List ℕ → Value
bytes_value column.Uuid bs = raw bs
bytes_value (column.Fixed size) bs = raw bs
bytes_value t bs = run bs

-- a partition value of this type
abbrev pub cell_value : ColumnType → Cell → Value
cell_value t cell.Null = no_value
cell_value t (cell.Bool b) = chosen 1 (truth b)
cell_value t (cell.Whole z) = chosen 1 (whole_value t z)
cell_value t (cell.Text s) = chosen 1 (text s)
cell_value t (cell.Bytes bs) = chosen 1 (bytes_value t bs)

abbrev pub tuple_values : List ColumnType → List Cell → List Value
tuple_values [] cs = []
tuple_values (t ∷ ts) [] = []
tuple_values (t ∷ ts) (c ∷ cs) = cell_value t c ∷ tuple_values ts cs

abbrev pub file_content : FileContent → ℤ
file_content holds.Data = pos 0
file_content holds.PositionDeletes = pos 1
file_content holds.EqualityDeletes = pos 2

-- no list where there is no id
abbrev pub ids_value : List ℤ → Value
ids_value [] = no_value
ids_value (id ∷ ids) = chosen 1 (items (values_of (map small (id ∷ ids))))

-- nothing is said of the columns; behind stand the equality ids, and the data file that position deletes are about
abbrev pub column_values : NewFile → List Value
column_values f =
    no_value ∷ no_value ∷ no_value ∷ no_value ∷ ids_value f.equality_ids ∷ if_some text f.referenced ∷ []

-- a data file
abbrev pub file_value : List ColumnType → NewFile → Value
file_value types f =
    fields (values_of (
    small (file_content f.content)
    ∷ text f.path
    ∷ text f.format
    ∷ fields (values_of (tuple_values types f.tuple))
    ∷ whole f.record_count
    ∷ whole f.file_size
    ∷ column_values f
    ))

-- the entry of a file that is added: its sequence numbers are left to be inherited
unfoldable pub entry_value : Heading → NewFile → Value
entry_value h f =
    fields (values_of (
    small (pos 1) ∷ chosen 1 (whole h.snapshot_id) ∷ no_value ∷ no_value ∷ file_value h.types f ∷ []))
