-- A table's columns, and what its metadata says, as lines of JSON: an object each. The member `kind` says what a line
-- is about; the other members are named after the words of the lines of text.
use Rattle.std.specs.Prelude.{ℕ, ℤ, List, [], ◌∷◌, ◌++◌, length, codes, Option, Some, None, if◌then◌else◌, option_map}
use Rattle.std.specs.List.{flat_map}
use Rattle.uuid.specs.Text.{hyphenated_text, lower}
use Rattle.serde_json.specs.Data.{Data, boolean, string}
use Rattle.ice_filter.specs.Texts.{column_text}
use Rattle.ice_meta.specs.declared.schema.Schema.{Schema}
use Rattle.ice_meta.specs.declared.snapshot.Ref.{Ref}
use Rattle.ice_meta.specs.declared.snapshot.RefKind.{RefKind}
use Rattle.ice_meta.specs.declared.snapshot.RefKind.TheVariants as kind
use Rattle.ice_meta.specs.declared.snapshot.Snapshot.{Snapshot}
use Rattle.ice_meta.specs.declared.spec.PartitionField.{PartitionField}
use Rattle.ice_meta.specs.declared.spec.Spec.{Spec}
use Rattle.ice_meta.specs.declared.table.Table.{Table}
use Rattle.icescan_columns.specs.Texts.{compared_word}
use Rattle.icescan_columns.specs.Told.{told_columns}
use Rattle.icescan_columns.specs.declared.told.ToldColumn.{ToldColumn}
use Rattle.icescan_forms.specs.Objects.{count_json, id_if, number_json, object_line, text_if}
use Rattle.icescan_print.specs.TableTexts.{is_other, main_ref}

-- ---- schemas, and after each its columns

abbrev pub schema_json : Schema → List (List ℕ × Data)
schema_json schema =
    (codes "kind", string (codes "schema")) ∷ (codes "schema", number_json schema.id)
    ∷ (codes "columns", count_json (length schema.columns)) ∷ []

-- a column of the schema of this id; where no filter can write it, its name is null
abbrev pub column_json : ℤ → ToldColumn → List (List ℕ × Data)
column_json schema told =
    (codes "kind", string (codes "column")) ∷ (codes "schema", number_json schema)
    ∷ (codes "column", number_json told.id) ∷ (codes "type", string told.type_word)
    ∷ (codes "required", boolean told.required) ∷ (codes "filter", string (compared_word told.compared))
    ∷ (codes "name", text_if (option_map column_text told.names)) ∷ []

unfoldable pub column_object : ℤ → ToldColumn → List ℕ
column_object schema told = object_line (column_json schema told)

unfoldable pub schema_objects : Data → Schema → List ℕ
schema_objects metadata schema =
    object_line (schema_json schema) ++ flat_map (column_object schema.id) (told_columns metadata schema)

-- ---- partition specs, and after each its fields

-- the spec of new files, by its id
abbrev pub default_json : ℤ → List (List ℕ × Data)
default_json id = (codes "kind", string (codes "default-spec")) ∷ (codes "spec", number_json id) ∷ []

abbrev pub spec_json : Spec → List (List ℕ × Data)
spec_json spec =
    (codes "kind", string (codes "spec")) ∷ (codes "spec", number_json spec.id)
    ∷ (codes "fields", count_json (length spec.fields)) ∷ []

-- a field of the spec of this id
abbrev pub field_json : ℤ → PartitionField → List (List ℕ × Data)
field_json spec field =
    (codes "kind", string (codes "field")) ∷ (codes "spec", number_json spec)
    ∷ (codes "field", number_json field.field_id) ∷ (codes "source", number_json field.source_id)
    ∷ (codes "transform", string field.transform) ∷ (codes "name", string field.name) ∷ []

unfoldable pub field_object : ℤ → PartitionField → List ℕ
field_object spec field = object_line (field_json spec field)

unfoldable pub spec_objects : Spec → List ℕ
spec_objects spec = object_line (spec_json spec) ++ flat_map (field_object spec.id) spec.fields

-- the columns of a schema of this metadata, and the partition specs of its table, in the order of the file
unfoldable pub columns_objects : Data → Schema → Table → List ℕ
columns_objects metadata schema table =
    schema_objects metadata schema
    ++ (object_line (default_json table.default_spec_id) ++ flat_map spec_objects table.specs)

-- ---- what a table's metadata says

abbrev pub table_json : Table → List (List ℕ × Data)
table_json table =
    (codes "kind", string (codes "table")) ∷ (codes "table-uuid", string (hyphenated_text lower table.uuid))
    ∷ (codes "location", string table.location)
    ∷ (codes "last-sequence-number", count_json table.last_sequence_number)
    ∷ (codes "current-snapshot", id_if table.current_snapshot_id)
    ∷ (codes "current-schema", number_json table.current_schema_id)
    ∷ (codes "default-spec", number_json table.default_spec_id) ∷ []

abbrev pub snapshot_json : Snapshot → List (List ℕ × Data)
snapshot_json s =
    (codes "kind", string (codes "snapshot")) ∷ (codes "snapshot", number_json s.id)
    ∷ (codes "seq", count_json s.sequence_number) ∷ (codes "at", number_json s.timestamp_ms)
    ∷ (codes "parent", id_if s.parent_id) ∷ (codes "operation", text_if s.operation)
    ∷ (codes "list", text_if s.manifest_list) ∷ []

unfoldable pub snapshot_object : Snapshot → List ℕ
snapshot_object s = object_line (snapshot_json s)

abbrev pub kind_word : RefKind → List ℕ
kind_word kind.Branch = codes "branch"
kind_word kind.Tag = codes "tag"

abbrev pub ref_json : Ref → List (List ℕ × Data)
ref_json r =
    (codes "kind", string (codes "ref")) ∷ (codes "ref", string r.name) ∷ (codes "type", string (kind_word r.kind))
    ∷ (codes "snapshot", number_json r.snapshot_id) ∷ []

unfoldable pub ref_object : Ref → List ℕ
ref_object r = object_line (ref_json r)

-- `main` is the current snapshot, whatever the refs say of it; the others are as they stand
abbrev pub main_object : Option Ref → List ℕ
main_object None = []
main_object (Some main) = ref_object main

abbrev pub other_object : Ref → List ℕ
other_object r = if is_other r then ref_object r else []

unfoldable pub refs_objects : Table → List ℕ
refs_objects table =
    main_object (option_map main_ref table.current_snapshot_id) ++ flat_map other_object table.refs

-- the table, its schemas, partition specs and snapshots in the order of the file, `main` and the other refs by name
unfoldable pub table_objects : Data → Table → List ℕ
table_objects metadata table =
    object_line (table_json table) ++ (flat_map (schema_objects metadata) table.schemas
    ++ (flat_map spec_objects table.specs ++ (flat_map snapshot_object table.snapshots ++ refs_objects table)))
