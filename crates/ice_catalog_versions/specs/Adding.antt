-- What a commit adds: its manifests and its list, and the metadata that names them (Apache Iceberg table spec v2,
-- "Snapshots", "Manifests" and "Manifest Lists"; the names of the files are those that writers use).
use Rattle.std.specs.Prelude.{◌≡◌, ◌+◌, true, is_some, ℕ, suc, ℤ, pos, List, [], ◌∷◌, ◌++◌, length, map, codes, Option}
use Rattle.std.specs.Prelude.{None, Some}
use Rattle.std.specs.Fmt.{decimal, signed_decimal}
use Rattle.contract_words.specs.Sorting.{sorted}
use Rattle.ice_value.specs.declared.column_type.ColumnType.{ColumnType}
use Rattle.ice_meta.specs.declared.commit.NewSnapshot.{NewSnapshot}
use Rattle.ice_meta.specs.declared.commit.Operation.{Operation}
use Rattle.ice_meta.specs.declared.commit.Operation.TheVariants as operation
use Rattle.ice_meta.specs.declared.spec.Spec.{Spec}
use Rattle.ice_meta.specs.declared.table.Table.{Table}
use Rattle.ice_meta.specs.Committing.{next_metadata}
use Rattle.ice_meta.specs.Partitioning.{without_fields}
use Rattle.ice_meta.specs.SchemaTexts.{schema_in, schema_text as schema_text_in}
use Rattle.ice_meta.specs.Targets.{Described}
use Rattle.ice_manifest.specs.declared.heading.Heading.{Heading}
use Rattle.ice_manifest.specs.declared.new_file.NewFile.{NewFile}
use Rattle.ice_manifest_reading.specs.declared.row.Row.{Row}
use Rattle.ice_manifest.specs.Adding.{IsHeading, AreNewFiles}
use Rattle.ice_manifest_reading.specs.Lists.{path_before}
use Rattle.ice_manifest.specs.NewRows.{new_row}
use Rattle.ice_manifest.specs.Writing.{list_bytes, manifest_bytes}
use Rattle.ice_catalog_changes.specs.declared.change.Commit.{Commit}
use Rattle.ice_catalog_changes.specs.declared.change.Ids.{Ids}
use Rattle.ice_catalog_changes.specs.NewFiles.{Added, uuid_text}
use Rattle.ice_catalog_versions.specs.Bases.{table_specs, spec_in, base_rows}
use Rattle.ice_catalog_versions.specs.Groups.{Group, groups}
use Rattle.ice_catalog_versions.specs.States.{State, with_files}
use Rattle.ice_catalog_versions.specs.Tuples.{allowed_of, written_type}

-- ---- paths

-- LOCATION/metadata/NAME
abbrev pub metadata_path : Table → List ℕ → List ℕ
metadata_path t name = t.location ++ codes "/metadata/" ++ name

-- UUID-mN.avro
abbrev pub manifest_name : Ids → ℕ → List ℕ
manifest_name ids n = uuid_text ids ++ codes "-m" ++ decimal n ++ codes ".avro"

-- snap-SNAPSHOT-UUID.avro
abbrev pub list_name : Ids → List ℕ
list_name ids = codes "snap-" ++ signed_decimal ids.snapshot ++ codes "-" ++ uuid_text ids ++ codes ".avro"

unfoldable pub manifest_path : Table → Ids → ℕ → List ℕ
manifest_path t ids n = metadata_path t (manifest_name ids n)

unfoldable pub list_path : Table → Ids → List ℕ
list_path t ids = metadata_path t (list_name ids)

-- ---- manifests

-- a manifest that the commit adds
pub record NewManifest : Type 0 where
  pub heading : Heading
  pub path : List ℕ
  pub files : List NewFile

-- the JSON text of the current schema
unfoldable pub schema_text : Described → List ℕ
schema_text m = schema_text_in (schema_in m.table.current_schema_id m.json)

-- the spec of the group; there is none only where the commit is refused
abbrev pub spec_or_none : ℤ → Option Spec → Spec
spec_or_none id None = without_fields id
spec_or_none id (Some spec) = spec

abbrev pub group_spec : Described → Group → Spec
group_spec m g = spec_or_none g.spec_id (spec_in (table_specs m.table) g.spec_id)

abbrev pub types_of : Spec → List ColumnType
types_of spec = map written_type (map allowed_of spec.fields)

unfoldable pub heading_of : Described → Ids → Group → Heading
heading_of m ids g = record {
  schema = schema_text m;
  schema_id = m.table.current_schema_id;
  spec = group_spec m g;
  types = types_of (group_spec m g);
  content = g.content;
  snapshot_id = ids.snapshot;
  sync = ids.uuid;
}

-- the group's manifest can be written
pub record CanWrite (m : Described) (ids : Ids) (g : Group) : Type 0 where
  pub known : is_some (spec_in (table_specs m.table) g.spec_id) ≡ true
  pub heading : IsHeading (heading_of m ids g)
  pub files : AreNewFiles (heading_of m ids g) g.files

-- the manifest of a group; they are numbered
abbrev pub manifest_of : Described → Ids → ℕ → Group → NewManifest
manifest_of m ids n g = record { heading = heading_of m ids g; path = manifest_path m.table ids n; files = g.files }

-- the manifests of groups, of which the first has this number
abbrev pub manifests_from : Described → Ids → ℕ → List Group → List NewManifest
manifests_from m ids n [] = []
manifests_from m ids n (g ∷ gs) = manifest_of m ids n g ∷ manifests_from m ids (n + 1) gs

abbrev pub bytes_of : NewManifest → List ℕ
bytes_of manifest = manifest_bytes manifest.heading manifest.files

abbrev pub file_of : NewManifest → List ℕ × List ℕ
file_of manifest = (manifest.path, bytes_of manifest)

-- ---- the list

-- the number of the commit
abbrev pub next_sequence : Table → ℕ
next_sequence t = suc t.last_sequence_number

-- the row of a new manifest, with its exact length, counts and summaries
abbrev pub row_of : ℕ → NewManifest → Row
row_of sequence manifest =
    new_row manifest.heading manifest.path (pos (length (bytes_of manifest))) sequence manifest.files

-- the rows of the base and the new ones, in the order of their paths
abbrev pub next_rows : List Row → ℕ → List NewManifest → List Row
next_rows rows sequence manifests = sorted path_before (rows ++ map (row_of sequence) manifests)

abbrev pub list_file : List Row → Described → Ids → List NewManifest → List ℕ × List ℕ
list_file rows m ids manifests =
    (list_path m.table ids, list_bytes (next_rows rows (next_sequence m.table) manifests) ids.uuid)

-- the new manifests and then the new list, where the base has these rows
abbrev pub files_of : List Row → Described → Ids → List NewManifest → Added
files_of rows m ids manifests = map file_of manifests ++ list_file rows m ids manifests ∷ []

abbrev pub files_over : List Row → Described → Ids → List Group → Added
files_over rows m ids groups = files_of rows m ids (manifests_from m ids 0 groups)

unfoldable pub added : State → Commit → Added
added s c = files_over (base_rows s.world s.metadata.table) s.metadata c.ids (groups c.change)

-- ---- the metadata

-- data alone are appended, deletes alone delete, both together overwrite
abbrev pub operation_of : List NewFile → List NewFile → Operation
operation_of files [] = operation.Append
operation_of [] (delete ∷ deletes) = operation.Delete
operation_of (file ∷ files) (delete ∷ deletes) = operation.Overwrite

abbrev pub snapshot_of : Table → Commit → NewSnapshot
snapshot_of t c = record {
  id = c.ids.snapshot;
  timestamp_ms = c.ids.now_ms;
  manifest_list = list_path t c.ids;
  operation = operation_of c.change.files c.change.deletes;
}

-- the next metadata, and the world with the files that are added
unfoldable pub next : State → Commit → State
next s c = record {
  metadata = next_metadata s.metadata (snapshot_of s.metadata.table c);
  world = with_files s.world (added s c);
}
