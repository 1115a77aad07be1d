-- Metadata, and what of a table is asked for (Apache Iceberg table spec v2, "Table Metadata" and "Snapshot
-- References").
use Rattle.std.specs.Prelude.{ℕ, ℤ, List, Bool, Option, None, Some, option_and_then, option_map, Result, Ok}
use Rattle.std.specs.Prelude.{if◌then◌else◌, find, map, codes}
use Rattle.std.specs.Option.{option_or}
use Rattle.std.specs.Str.{bytes_eq}
use Rattle.std.specs.Ordering.{int_eq}
use Rattle.contract_words.specs.Outcome.{◌>>=◌}
use Rattle.serde_json.specs.Data.{Data}
use Rattle.serde_json.specs.View.{view}
use Rattle.serde_json.specs.declared.value.Value.{Value}
use Rattle.ice_meta.specs.declared.fault.Member.TheVariants as member
use Rattle.ice_meta.specs.declared.fault.MetaFault.{MetaFault}
use Rattle.ice_meta.specs.declared.fault.MetaFault.TheVariants.{Missing, NoSuchRef, NoSuchSnapshot, NoSnapshot}
use Rattle.ice_meta.specs.declared.metadata.Target.{Target}
use Rattle.ice_meta.specs.declared.metadata.Target.TheVariants as target
use Rattle.ice_meta.specs.declared.schema.Schema.{Schema}
use Rattle.ice_meta.specs.declared.snapshot.Ref.{Ref}
use Rattle.ice_meta.specs.declared.snapshot.RefKind.{RefKind}
use Rattle.ice_meta.specs.declared.snapshot.RefKind.TheVariants as kind
use Rattle.ice_meta.specs.declared.snapshot.Snapshot.{Snapshot}
use Rattle.ice_meta.specs.declared.spec.PartitionField.{PartitionField}
use Rattle.ice_meta.specs.declared.spec.Spec.{Spec}
use Rattle.ice_meta.specs.declared.table.Table.{Table}
use Rattle.ice_meta.specs.Columns.{type_of}
use Rattle.ice_meta.specs.Members.{asked}
use Rattle.ice_meta.specs.Tables.{json_of, table_of}
use Rattle.ice_meta_json.specs.Upgraded.{filled}

-- metadata: the whole JSON object, and what it says
pub record Described : Type 0 where
  pub json : Data
  pub table : Table

abbrev pub described : Value → Table → Described
described json t = record { json = view json; table = t }

-- What the bytes of a metadata file are, or their first fault. Each snapshot of what is kept has its sequence number,
-- also where the file leaves it out.
unfoldable pub metadata_of : List ℕ → Result Described MetaFault
metadata_of bytes = do
  d ← json_of bytes
  t ← table_of d
  Ok (record { json = filled d; table = t })

-- ---- by id and name

abbrev pub schema_with : ℤ → Table → Option Schema
schema_with id t = find (λ (s : Schema). int_eq s.id id) t.schemas

abbrev pub spec_with : ℤ → Table → Option Spec
spec_with id t = find (λ (s : Spec). int_eq s.id id) t.specs

abbrev pub snapshot_with : ℤ → Table → Option Snapshot
snapshot_with id t = find (λ (s : Snapshot). int_eq s.id id) t.snapshots

abbrev pub ref_with : List ℕ → Table → Option Ref
ref_with name t = find (λ (r : Ref). bytes_eq r.name name) t.refs

-- the field, with the type that its source column has in a schema
abbrev pub bound_field : Schema → PartitionField → PartitionField
bound_field schema field = record {
  source_id = field.source_id;
  field_id = field.field_id;
  name = field.name;
  transform = field.transform;
  source_type = type_of field.source_id schema;
}

-- the spec, with the types that its source columns have in a schema
abbrev pub bound_spec : Schema → Spec → Spec
bound_spec schema spec = record { id = spec.id; fields = map (bound_field schema) spec.fields }

-- all partition specs, so
abbrev pub bound_specs : Schema → Table → List Spec
bound_specs schema t = map (bound_spec schema) t.specs

-- ---- targets

-- `main` always is the current snapshot
abbrev pub is_main : List ℕ → Bool
is_main name = bytes_eq name (codes "main")

abbrev pub current_id : Table → Result ℤ MetaFault
current_id t = asked NoSnapshot t.current_snapshot_id

abbrev pub named_id : List ℕ → Table → Result ℤ MetaFault
named_id name t = asked NoSuchRef (option_map (λ (r : Ref). r.snapshot_id) (ref_with name t))

-- the id of the snapshot that a target names
abbrev pub target_id : Target → Table → Result ℤ MetaFault
target_id target.Main t = current_id t
target_id (target.Ref name) t = if is_main name then current_id t else named_id name t
target_id (target.Snapshot id) t = Ok id

-- the id of a snapshot that is there and has a manifest list
abbrev pub checked_id : ℤ → Table → Result ℤ MetaFault
checked_id id t = do
  snapshot ← asked NoSuchSnapshot (snapshot_with id t)
  list ← asked (Missing member.ManifestList) snapshot.manifest_list
  Ok id

unfoldable pub resolved : Target → Table → Result ℤ MetaFault
resolved target t = target_id target t >>= λ id. checked_id id t

-- the path of the manifest list of that snapshot
unfoldable pub list_of : Target → Table → Result (List ℕ) MetaFault
list_of target t = do
  id ← target_id target t
  snapshot ← asked NoSuchSnapshot (snapshot_with id t)
  asked (Missing member.ManifestList) snapshot.manifest_list

-- a tag stays with its snapshot, a branch moves on
abbrev pub if_tag : Ref → Option ℤ
if_tag r = tagged r.kind
  where
    tagged : RefKind → Option ℤ
    tagged kind.Branch = None
    tagged kind.Tag = Some r.snapshot_id

-- the id of the snapshot whose own schema counts: that of a tag, or the one that is named by its id
abbrev pub pinned_id : Target → Table → Option ℤ
pinned_id target.Main t = None
pinned_id (target.Ref name) t = if is_main name then None else option_and_then if_tag (ref_with name t)
pinned_id (target.Snapshot id) t = Some id

-- the schema that a snapshot names, where it is there
abbrev pub own_schema : ℤ → Table → Option Schema
own_schema id t =
    option_and_then (λ schema. schema_with schema t)
    (option_and_then (λ (s : Snapshot). s.schema_id) (snapshot_with id t))

abbrev pub pinned_schema : Target → Table → Option Schema
pinned_schema target t = option_and_then (λ id. own_schema id t) (pinned_id target t)

-- the schema that counts for a target: the pinned snapshot's own, else the current one
unfoldable pub schema_for : Target → Table → Option Schema
schema_for target t = option_or (pinned_schema target t) (schema_with t.current_schema_id t)
