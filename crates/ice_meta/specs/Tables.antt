-- Table metadata (Apache Iceberg table spec v2, "Table Metadata" and "Appendix C: JSON serialization"). What is read of
-- an object is read member by member in the order of the lines; the first line that has a fault gives it.
use Rattle.std.specs.Prelude.{◌≡◌, true, ℕ, pos, negsuc, ℤ, List, [], ◌∷◌, ◌++◌, length, Bool, Option, None, Some, map}
use Rattle.std.specs.Prelude.{Result, Ok, Err, if◌then◌else◌, codes, nat_lt}
use Rattle.std.specs.Str.{bytes_eq, is_utf8}
use Rattle.std.specs.List.{list_any, IsDistinct}
use Rattle.std.specs.Ordering.{int_eq}
use Rattle.std.specs.Option.{is_some}
use Rattle.contract_words.specs.Outcome.{◌>>=◌}
use Rattle.serde_json.specs.Data as json
use Rattle.serde_json.specs.Data.{Data, Items, Members}
use Rattle.serde_json.specs.Events.{items_len}
use Rattle.serde_json.specs.Find.{as_object}
use Rattle.serde_json.specs.Read.{read}
use Rattle.uuid.specs.Text.{parsed}
use Rattle.ice_meta.specs.declared.fault.Member.{Member}
use Rattle.ice_meta.specs.declared.fault.Member.TheVariants as member
use Rattle.ice_meta.specs.declared.fault.MetaFault.{MetaFault}
use Rattle.ice_meta.specs.declared.fault.MetaFault.TheVariants.{NotJson, Version, WrongKind, Dangling, TooBig}
use Rattle.ice_meta.specs.declared.schema.Schema.{Schema}
use Rattle.ice_meta.specs.declared.spec.PartitionField.{PartitionField}
use Rattle.ice_meta.specs.declared.spec.Spec.{Spec}
use Rattle.ice_meta.specs.declared.snapshot.Snapshot.{Snapshot}
use Rattle.ice_meta.specs.declared.snapshot.Ref.{Ref}
use Rattle.ice_meta.specs.declared.snapshot.RefKind.{RefKind}
use Rattle.ice_meta.specs.declared.snapshot.RefKind.TheVariants as kind
use Rattle.ice_meta.specs.declared.table.Table.{Table}
use Rattle.ice_meta.specs.Members.{asked, perhaps, objects_of, long_in, int_in, sequence_number_in, text_in, objects_in}
use Rattle.ice_meta.specs.Members.{sequence_number_or_zero, optional_long, optional_int, optional_text}
use Rattle.ice_meta.specs.Reading.{each, is_among, once}
use Rattle.ice_meta.specs.Schemas.{schema_of}

-- ---- values of one member

-- format version 2 is the one that is read
abbrev pub if_second : ℤ → Result ℤ MetaFault
if_second version = if int_eq version (pos 2) then Ok version else Err (Version version)

unfoldable pub version_in : Data → Result ℤ MetaFault
version_in d = long_in member.FormatVersion d >>= if_second

-- the 16 bytes of a UUID's text
unfoldable pub uuid_in : Data → Result (List ℕ) MetaFault
uuid_in d = text_in member.TableUuid d >>= λ s. asked (WrongKind member.TableUuid) (parsed s)

abbrev pub if_short : List ℕ → Result (List ℕ) MetaFault
if_short s = if nat_lt 65000 (length s) then Err (WrongKind member.Location) else Ok s

-- a location of 65,000 bytes at most
unfoldable pub location_in : Data → Result (List ℕ) MetaFault
location_in d = text_in member.Location d >>= if_short

-- the id, where it is among these
abbrev pub if_among : Member → Bool → ℤ → Result ℤ MetaFault
if_among m among id = if among then Ok id else Err (Dangling m)

-- -1 stands for no snapshot
abbrev pub if_snapshot : Option ℤ → Option ℤ
if_snapshot None = None
if_snapshot (Some id) = if int_eq id (negsuc 0) then None else Some id

unfoldable pub current_snapshot_in : Data → Result (Option ℤ) MetaFault
current_snapshot_in d = optional_long member.CurrentSnapshotId d >>= λ id. Ok (if_snapshot id)

-- ---- schemas and specs

-- what the objects of a member's array say, where no two have one id
abbrev pub numbered_in : {A : Type 0} → (Data → Result A MetaFault) → (A → ℤ) → Member → Data
    → Result (List A) MetaFault
numbered_in said id_of m d = do
  items ← objects_in m d
  values ← each said items
  once id_of values

-- the id that a member says, where one of them has it
abbrev pub id_among : {A : Type 0} → (A → ℤ) → List A → Member → Data → Result ℤ MetaFault
id_among id_of xs m d = int_in m d >>= λ id. if_among m (is_among id_of id xs) id

abbrev pub schema_id : Schema → ℤ
schema_id schema = schema.id

-- schemas of different ids
unfoldable pub schemas_in : Data → Result (List Schema) MetaFault
schemas_in d = do
  items ← objects_in member.Schemas d
  schemas ← each schema_of items
  once schema_id schemas

abbrev pub has_schema : ℤ → List Schema → Bool
has_schema id schemas = list_any (λ (s : Schema). int_eq s.id id) schemas

-- the id of one of the schemas
unfoldable pub current_schema_in : List Schema → Data → Result ℤ MetaFault
current_schema_in schemas d =
    int_in member.CurrentSchemaId d >>= λ id. if_among member.CurrentSchemaId (has_schema id schemas) id

abbrev pub field_id : PartitionField → ℤ
field_id field = field.field_id

-- a partition field; its source type comes with a schema
unfoldable pub partition_field_of : Data → Result PartitionField MetaFault
partition_field_of d = do
  source_id ← int_in member.SourceId d
  field_id ← int_in member.FieldId d
  name ← text_in member.Name d
  transform ← text_in member.Transform d
  Ok (record { source_id = source_id; field_id = field_id; name = name; transform = transform; source_type = None })

-- at most 64 fields
abbrev pub if_few : Items → Result Items MetaFault
if_few items = if nat_lt 64 (items_len items) then Err TooBig else Ok items

-- a partition spec of fields of different ids
unfoldable pub spec_of : Data → Result Spec MetaFault
spec_of d = do
  id ← int_in member.SpecId d
  items ← objects_in member.Fields d
  few ← if_few items
  fields ← each partition_field_of few
  different ← once field_id fields
  Ok (record { id = id; fields = different })

abbrev pub spec_id : Spec → ℤ
spec_id spec = spec.id

-- specs of different ids
unfoldable pub specs_in : Data → Result (List Spec) MetaFault
specs_in d = do
  items ← objects_in member.PartitionSpecs d
  specs ← each spec_of items
  once spec_id specs

abbrev pub has_spec : ℤ → List Spec → Bool
has_spec id specs = list_any (λ (s : Spec). int_eq s.id id) specs

-- the id of one of the specs
unfoldable pub default_spec_in : List Spec → Data → Result ℤ MetaFault
default_spec_in specs d = int_in member.DefaultSpecId d >>= λ id. if_among member.DefaultSpecId (has_spec id specs) id

-- ---- snapshots and refs

-- an object
abbrev pub object_of : Member → Data → Result Data MetaFault
object_of m d = if is_some (as_object d) then Ok d else Err (WrongKind m)

-- the operation in a summary
unfoldable pub operation_of : Data → Result (Option (List ℕ)) MetaFault
operation_of d = object_of member.Summary d >>= optional_text member.Operation

abbrev pub if_summary : Option Data → Result (Option (List ℕ)) MetaFault
if_summary None = Ok None
if_summary (Some d) = operation_of d

-- the operation that the summary names
abbrev pub operation_in : Data → Result (Option (List ℕ)) MetaFault
operation_in d = if_summary (perhaps member.Summary d)

unfoldable pub snapshot_of : Data → Result Snapshot MetaFault
snapshot_of d = do
  id ← long_in member.SnapshotId d
  parent_id ← optional_long member.ParentSnapshotId d
  sequence_number ← sequence_number_or_zero member.SequenceNumber d
  timestamp_ms ← long_in member.TimestampMs d
  manifest_list ← optional_text member.ManifestList d
  operation ← operation_in d
  schema_id ← optional_int member.SchemaId d
  Ok (record {
    id = id;
    parent_id = parent_id;
    sequence_number = sequence_number;
    timestamp_ms = timestamp_ms;
    manifest_list = manifest_list;
    operation = operation;
    schema_id = schema_id;
  })

abbrev pub snapshot_id : Snapshot → ℤ
snapshot_id snapshot = snapshot.id

abbrev pub if_snapshots : Option Data → Result (List Snapshot) MetaFault
if_snapshots None = Ok []
if_snapshots (Some d) = do
  items ← objects_of member.Snapshots d
  snapshots ← each snapshot_of items
  once snapshot_id snapshots

-- snapshots of different ids
unfoldable pub snapshots_in : Data → Result (List Snapshot) MetaFault
snapshots_in d = if_snapshots (perhaps member.Snapshots d)

-- branch or tag
abbrev pub kind_of : List ℕ → Result RefKind MetaFault
kind_of s =
    if bytes_eq s (codes "branch") then Ok kind.Branch
    else (if bytes_eq s (codes "tag") then Ok kind.Tag else Err (WrongKind member.Type))

-- the branch or tag of a name
unfoldable pub ref_of : List ℕ → Data → Result Ref MetaFault
ref_of name d = do
  whole ← object_of member.Refs d
  snapshot_id ← long_in member.SnapshotId whole
  type ← text_in member.Type whole
  kind ← kind_of type
  Ok (record { name = name; snapshot_id = snapshot_id; kind = kind })

-- the branches and tags in the order of their names, behind those in front
abbrev pub each_ref : Members → List Ref → Result (List Ref) MetaFault
each_ref json.no_members front = Ok front
each_ref (json.member name d ms) front = ref_of name d >>= λ x. each_ref ms (front ++ x ∷ [])

abbrev pub members_of : Member → Data → Result Members MetaFault
members_of m d = asked (WrongKind m) (as_object d)

abbrev pub if_refs : Option Data → Result (List Ref) MetaFault
if_refs None = Ok []
if_refs (Some d) = members_of member.Refs d >>= λ ms. each_ref ms []

unfoldable pub refs_in : Data → Result (List Ref) MetaFault
refs_in d = if_refs (perhaps member.Refs d)

-- ---- the table

unfoldable pub table_of : Data → Result Table MetaFault
table_of d = do
  version ← version_in d
  uuid ← uuid_in d
  location ← location_in d
  last_sequence_number ← sequence_number_in member.LastSequenceNumber d
  last_updated_ms ← long_in member.LastUpdatedMs d
  last_column_id ← int_in member.LastColumnId d
  schemas ← schemas_in d
  current_schema_id ← current_schema_in schemas d
  specs ← specs_in d
  default_spec_id ← default_spec_in specs d
  last_partition_id ← int_in member.LastPartitionId d
  current_snapshot_id ← current_snapshot_in d
  snapshots ← snapshots_in d
  refs ← refs_in d
  Ok (record {
    uuid = uuid;
    location = location;
    last_sequence_number = last_sequence_number;
    last_updated_ms = last_updated_ms;
    last_column_id = last_column_id;
    schemas = schemas;
    current_schema_id = current_schema_id;
    specs = specs;
    default_spec_id = default_spec_id;
    last_partition_id = last_partition_id;
    current_snapshot_id = current_snapshot_id;
    snapshots = snapshots;
    refs = refs;
  })

-- the current schema is there
abbrev pub HasCurrentSchema : Table → Type 0
HasCurrentSchema t = has_schema t.current_schema_id t.schemas ≡ true

-- the spec for new files is there
abbrev pub HasDefaultSpec : Table → Type 0
HasDefaultSpec t = has_spec t.default_spec_id t.specs ≡ true

-- no two have one id
abbrev pub HasDifferentSchemas : Table → Type 0
HasDifferentSchemas t = IsDistinct int_eq (map schema_id t.schemas)

abbrev pub HasDifferentSpecs : Table → Type 0
HasDifferentSpecs t = IsDistinct int_eq (map spec_id t.specs)

abbrev pub HasDifferentSnapshots : Table → Type 0
HasDifferentSnapshots t = IsDistinct int_eq (map snapshot_id t.snapshots)

-- ---- bytes

abbrev pub if_read : Option Data → Result Data MetaFault
if_read None = Err NotJson
if_read (Some d) = Ok d

abbrev pub if_object : Data → Result Data MetaFault
if_object d = if is_some (as_object d) then Ok d else Err NotJson

-- the JSON of a text in UTF-8
unfoldable pub text_json : List ℕ → Result Data MetaFault
text_json bytes = if is_utf8 bytes then if_read (read bytes) else Err NotJson

-- the JSON object of a text in UTF-8
abbrev pub json_of : List ℕ → Result Data MetaFault
json_of bytes = text_json bytes >>= if_object
