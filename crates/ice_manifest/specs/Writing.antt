-- The bytes of the manifest lists and manifests that are written, and the entries that are read of such a manifest
-- (Apache Iceberg table spec v2, "Manifest Lists" and "Manifests": the metadata of a manifest's file).
use Rattle.std.specs.Prelude.{ℕ, suc, List, [], ◌∷◌, map, Some, codes}
use Rattle.std.specs.Fmt.{signed_decimal}
use Rattle.serde_json.specs.Data as json
use Rattle.serde_json.specs.Data.{Data, Items}
use Rattle.serde_json.specs.Written.{compact_text}
use Rattle.avro_file.specs.Header.{Property}
use Rattle.avro_file.specs.Writing.{in_order, file_bytes}
use Rattle.ice_value.specs.Formats.{format_named}
use Rattle.ice_meta.specs.declared.spec.PartitionField.{PartitionField}
use Rattle.ice_meta.specs.declared.spec.Spec.{Spec}
use Rattle.ice_meta.specs.Partitioning.{is_unpartitioned}
use Rattle.ice_manifest_reading.specs.declared.row.Row.{Row}
use Rattle.ice_manifest_reading.specs.declared.row.ManifestContent.{ManifestContent}
use Rattle.ice_manifest_reading.specs.declared.row.ManifestContent.TheVariants as contains
use Rattle.ice_manifest_reading.specs.declared.entry.Entry.{Entry}
use Rattle.ice_manifest.specs.declared.new_file.NewFile.{NewFile}
use Rattle.ice_manifest.specs.declared.heading.Heading.{Heading}
use Rattle.ice_meta_json.specs.Objects.{set, whole, no_object}
use Rattle.ice_manifest.specs.PartitionNames.{naming_of}
use Rattle.ice_manifest.specs.WrittenTypes.{Written, json_of}
use Rattle.ice_manifest.specs.WrittenSchemas.{list_type, entry_type, partition_fields}
use Rattle.ice_manifest.specs.WrittenValues.{row_value, entry_value}

-- the text of a schema
abbrev pub schema_text : Written → List ℕ
schema_text w = compact_text (json_of w)

abbrev pub version_property : Property
version_property = (codes "format-version", codes "2")

-- ---- lists

-- the bytes of a list of these rows, with this marker
abbrev pub list_bytes : List Row → List ℕ → List ℕ
list_bytes rows sync = file_bytes (in_order (schema_text list_type) (version_property ∷ [])) sync (map row_value rows)

-- ---- manifests

-- a partition field, as table metadata has it
abbrev pub partition_field_json : PartitionField → Data
partition_field_json p =
    set (codes "source-id") (whole p.source_id)
    (set (codes "field-id") (whole p.field_id)
    (set (codes "name") (json.string p.name)
    (set (codes "transform") (json.string p.transform) no_object)))

abbrev pub partition_fields_json : List PartitionField → Items
partition_fields_json [] = json.no_items
partition_fields_json (p ∷ ps) = json.item (partition_field_json p) (partition_fields_json ps)

unfoldable pub spec_text : Spec → List ℕ
spec_text spec = compact_text (json.array (partition_fields_json spec.fields))

abbrev pub content_name : ManifestContent → List ℕ
content_name contains.Data = codes "data"
content_name contains.Deletes = codes "deletes"

-- the metadata of a file with entries of this content: the texts of the table's schema, of the spec, and of their ids
abbrev pub properties_with : List ℕ → List ℕ → List ℕ → List ℕ → ManifestContent → List Property
properties_with schema schema_id spec spec_id content =
    (codes "schema", schema)
    ∷ (codes "schema-id", schema_id)
    ∷ (codes "partition-spec", spec)
    ∷ (codes "partition-spec-id", spec_id)
    ∷ version_property
    ∷ (codes "content", content_name content)
    ∷ []

-- the metadata of a manifest's file
abbrev pub manifest_properties : Heading → List Property
manifest_properties h =
    properties_with h.schema (signed_decimal h.schema_id) (spec_text h.spec) (signed_decimal h.spec.id) h.content

abbrev pub manifest_type : Heading → Written
manifest_type h = entry_type (partition_fields (naming_of h.spec.fields) h.spec.fields h.types)

-- the bytes of a manifest of these files, in their order
abbrev pub manifest_bytes : Heading → List NewFile → List ℕ
manifest_bytes h fs =
    file_bytes (in_order (schema_text (manifest_type h)) (manifest_properties h)) h.sync (map (entry_value h) fs)

-- ---- what is read of a manifest that was written

-- the entry of a file at a position, under the row of its manifest: it has the row's sequence numbers
abbrev pub new_entry : Row → Heading → ℕ → NewFile → Entry
new_entry row h position f = record {
  position = position;
  spec_id = row.spec_id;
  unpartitioned = is_unpartitioned h.spec;
  snapshot_id = h.snapshot_id;
  sequence_number = row.sequence_number;
  file_sequence_number = Some row.sequence_number;
  file = record {
    content = f.content;
    format = format_named f.format;
    path = f.path;
    tuple = f.tuple;
    record_count = f.record_count;
    file_size = f.file_size;
    equality_ids = f.equality_ids;
    referenced = f.referenced;
  };
}

-- the entries of the files, where the first has a position
abbrev pub new_entries : Row → Heading → ℕ → List NewFile → List Entry
new_entries row h position [] = []
new_entries row h position (f ∷ fs) = new_entry row h position f ∷ new_entries row h (suc position) fs
