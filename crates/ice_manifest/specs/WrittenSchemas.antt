-- The schemas of the manifest lists and manifests that are written: the fields of the table format, with its names and
-- ids (Apache Iceberg table spec v2, "Manifest Lists", "Manifests" and "Manifest Entry Fields"; file_format is written
-- behind file_path).
use Rattle.std.specs.Prelude.{ℕ, ℤ, pos, List, [], ◌∷◌, ◌++◌, true, false, codes}
use Rattle.std.specs.Fmt.{signed_decimal}
use Rattle.ice_value.specs.declared.column_type.ColumnType.{ColumnType}
use Rattle.ice_value.specs.declared.column_type.ColumnType.TheVariants as column
use Rattle.ice_meta.specs.declared.spec.PartitionField.{PartitionField}
use Rattle.ice_manifest.specs.declared.partition_names.Naming.{Naming}
use Rattle.ice_manifest.specs.PartitionNames.{field_name}
use Rattle.ice_manifest.specs.WrittenTypes as written
use Rattle.ice_manifest.specs.WrittenTypes.{Written, WrittenFields, word, date, time, timestamp, fixed, uuid, list, map}
use Rattle.ice_manifest.specs.WrittenTypes.{structure, no_more, required, optional, optional_json, json_of}
use Rattle.serde_json.specs.Data.{Data}

-- ---- lists

-- a field summary
abbrev pub summary_type : Written
summary_type =
    structure (codes "r508")
    (required (codes "contains_null") (pos 509) (word written.boolean)
    (optional (codes "contains_nan") (pos 518) (word written.boolean)
    (optional (codes "lower_bound") (pos 510) (word written.bytes)
    (optional (codes "upper_bound") (pos 511) (word written.bytes) no_more))))

-- the counts, and the summaries behind them
abbrev pub count_fields : WrittenFields
count_fields =
    optional (codes "added_files_count") (pos 504) (word written.int)
    (optional (codes "existing_files_count") (pos 505) (word written.int)
    (optional (codes "deleted_files_count") (pos 506) (word written.int)
    (optional (codes "added_rows_count") (pos 512) (word written.long)
    (optional (codes "existing_rows_count") (pos 513) (word written.long)
    (optional (codes "deleted_rows_count") (pos 514) (word written.long)
    (optional (codes "partitions") (pos 507) (list (pos 508) summary_type) no_more))))))

-- a row of a manifest list
unfoldable pub list_type : Written
list_type =
    structure (codes "manifest_file")
    (required (codes "manifest_path") (pos 500) (word written.string)
    (required (codes "manifest_length") (pos 501) (word written.long)
    (required (codes "partition_spec_id") (pos 502) (word written.int)
    (required (codes "content") (pos 517) (word written.int)
    (required (codes "sequence_number") (pos 515) (word written.long)
    (required (codes "min_sequence_number") (pos 516) (word written.long)
    (required (codes "added_snapshot_id") (pos 503) (word written.long) count_fields)))))))

-- ---- manifests

-- a fixed type that belongs to a partition field
abbrev pub fixed_name : ℤ → List ℕ
fixed_name id = codes "f" ++ signed_decimal id

-- how a partition value of this type is written; floats, doubles and decimals are none
abbrev pub value_type : ℤ → ColumnType → Written
value_type id column.Boolean = word written.boolean
value_type id column.Int = word written.int
value_type id column.Long = word written.long
value_type id column.Date = date
value_type id column.Time = time
value_type id column.Timestamp = timestamp false
value_type id column.Timestamptz = timestamp true
value_type id column.String = word written.string
value_type id column.Uuid = uuid (fixed_name id)
value_type id (column.Fixed size) = fixed (fixed_name id) size
value_type id t = word written.bytes

-- a partition field, with the type of its values
abbrev pub partition_field_type : Naming → PartitionField → ColumnType → Data
partition_field_type naming p t = optional_json (field_name naming p) p.field_id (json_of (value_type p.field_id t))

-- the partition fields, with the types of their values
abbrev pub partition_fields : Naming → List PartitionField → List ColumnType → WrittenFields
partition_fields naming [] ts = no_more
partition_fields naming (p ∷ ps) [] = no_more
partition_fields naming (p ∷ ps) (t ∷ ts) =
    optional (field_name naming p) p.field_id (value_type p.field_id t) (partition_fields naming ps ts)

-- a pair of a column's id and what is said of the column
abbrev pub pair_type : List ℕ → ℤ → ℤ → written.Word → Written
pair_type name key said w =
    structure name
    (required (codes "key") key (word written.int)
    (required (codes "value") said (word w) no_more))

-- what is said of the file's columns; behind it stands what deletes say of themselves
abbrev pub column_fields : WrittenFields
column_fields =
    optional (codes "value_counts") (pos 109) (map (pair_type (codes "k119_v120") (pos 119) (pos 120) written.long))
    (optional (codes "null_value_counts") (pos 110)
    (map (pair_type (codes "k121_v122") (pos 121) (pos 122) written.long))
    (optional (codes "lower_bounds") (pos 125) (map (pair_type (codes "k126_v127") (pos 126) (pos 127) written.bytes))
    (optional (codes "upper_bounds") (pos 128) (map (pair_type (codes "k129_v130") (pos 129) (pos 130) written.bytes))
    (optional (codes "equality_ids") (pos 135) (list (pos 136) (word written.int))
    (optional (codes "referenced_data_file") (pos 143) (word written.string) no_more)))))

-- a data file, with these partition fields
abbrev pub file_type : WrittenFields → Written
file_type partition =
    structure (codes "r2")
    (required (codes "content") (pos 134) (word written.int)
    (required (codes "file_path") (pos 100) (word written.string)
    (required (codes "file_format") (pos 101) (word written.string)
    (required (codes "partition") (pos 102) (structure (codes "r102") partition)
    (required (codes "record_count") (pos 103) (word written.long)
    (required (codes "file_size_in_bytes") (pos 104) (word written.long) column_fields))))))

-- a manifest entry
unfoldable pub entry_type : WrittenFields → Written
entry_type partition =
    structure (codes "manifest_entry")
    (required (codes "status") (pos 0) (word written.int)
    (optional (codes "snapshot_id") (pos 1) (word written.long)
    (optional (codes "sequence_number") (pos 3) (word written.long)
    (optional (codes "file_sequence_number") (pos 4) (word written.long)
    (required (codes "data_file") (pos 2) (file_type partition) no_more)))))
