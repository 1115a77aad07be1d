-- The members of table metadata (Apache Iceberg table spec v2, "Table Metadata" and "Appendix C: JSON serialization"),
-- by name, and how one of them is read: what is needed has to be there, and its value of its kind.
use Rattle.std.specs.Prelude.{ℕ, ℤ, pos, negsuc, ◌^◌, ◌&&◌, Bool, true, List, Option, None, Some, option_and_then}
use Rattle.std.specs.Prelude.{Result, Ok, Err, if◌then◌else◌, codes, nat_lt}
use Rattle.contract_words.specs.Outcome.{◌>>=◌}
use Rattle.serde_json.specs.Data as json
use Rattle.serde_json.specs.Data.{Data, Items}
use Rattle.serde_json.specs.Find.{get, as_bool, as_str, as_array, as_object, as_number, as_i64, as_u64}
use Rattle.std.specs.Option.{is_some}
use Rattle.ice_meta.specs.declared.fault.Member.{Member}
use Rattle.ice_meta.specs.declared.fault.Member.TheVariants as member
use Rattle.ice_meta.specs.declared.fault.MetaFault.{MetaFault}
use Rattle.ice_meta.specs.declared.fault.MetaFault.TheVariants.{Missing, WrongKind}

abbrev pub member_name : Member → List ℕ
member_name member.CurrentSchemaId = codes "current-schema-id"
member_name member.CurrentSnapshotId = codes "current-snapshot-id"
member_name member.DefaultSpecId = codes "default-spec-id"
member_name member.Element = codes "element"
member_name member.ElementId = codes "element-id"
member_name member.FieldId = codes "field-id"
member_name member.Fields = codes "fields"
member_name member.FormatVersion = codes "format-version"
member_name member.Id = codes "id"
member_name member.Key = codes "key"
member_name member.KeyId = codes "key-id"
member_name member.LastColumnId = codes "last-column-id"
member_name member.LastPartitionId = codes "last-partition-id"
member_name member.LastSequenceNumber = codes "last-sequence-number"
member_name member.LastUpdatedMs = codes "last-updated-ms"
member_name member.Location = codes "location"
member_name member.ManifestList = codes "manifest-list"
member_name member.Name = codes "name"
member_name member.Operation = codes "operation"
member_name member.ParentSnapshotId = codes "parent-snapshot-id"
member_name member.PartitionSpecs = codes "partition-specs"
member_name member.Refs = codes "refs"
member_name member.Required = codes "required"
member_name member.SchemaId = codes "schema-id"
member_name member.Schemas = codes "schemas"
member_name member.SequenceNumber = codes "sequence-number"
member_name member.SnapshotId = codes "snapshot-id"
member_name member.Snapshots = codes "snapshots"
member_name member.SourceId = codes "source-id"
member_name member.SpecId = codes "spec-id"
member_name member.Summary = codes "summary"
member_name member.TableUuid = codes "table-uuid"
member_name member.TimestampMs = codes "timestamp-ms"
member_name member.Transform = codes "transform"
member_name member.Type = codes "type"
member_name member.Value = codes "value"
member_name member.ValueId = codes "value-id"

-- what has to be there, or a fault
abbrev pub asked : {A : Type 0} → MetaFault → Option A → Result A MetaFault
asked fault None = Err fault
asked fault (Some x) = Ok x

-- the value of a member
abbrev pub there : Member → Data → Result Data MetaFault
there m d = asked (Missing m) (get (member_name m) d)

-- null stands for no value
abbrev pub not_null : Data → Option Data
not_null json.null = None
not_null d = Some d

-- the value of a member that may be left out
abbrev pub perhaps : Member → Data → Option Data
perhaps m d = option_and_then not_null (get (member_name m) d)

-- ---- kinds

-- a whole number of 64 bits
abbrev pub long_of : Member → Data → Result ℤ MetaFault
long_of m d = asked (WrongKind m) (option_and_then as_i64 (as_number d))

abbrev pub if_int : ℤ → Option ℤ
if_int (pos n) = if nat_lt n (2 ^ 31) then Some (pos n) else None
if_int (negsuc n) = if nat_lt n (2 ^ 31) then Some (negsuc n) else None

-- a whole number of 32 bits
abbrev pub int_of : Member → Data → Result ℤ MetaFault
int_of m d = long_of m d >>= λ z. asked (WrongKind m) (if_int z)

abbrev pub if_natural : ℕ → Option ℕ
if_natural n = if nat_lt n (2 ^ 63) then Some n else None

-- a sequence number: a whole number of 64 bits that is not negative
abbrev pub sequence_number_of : Member → Data → Result ℕ MetaFault
sequence_number_of m d = asked (WrongKind m) (option_and_then if_natural (option_and_then as_u64 (as_number d)))

abbrev pub text_of : Member → Data → Result (List ℕ) MetaFault
text_of m d = asked (WrongKind m) (as_str d)

abbrev pub flag_of : Member → Data → Result Bool MetaFault
flag_of m d = asked (WrongKind m) (as_bool d)

abbrev pub all_objects : Items → Bool
all_objects json.no_items = true
all_objects (json.item d ds) = is_some (as_object d) && all_objects ds

abbrev pub if_objects : Items → Option Items
if_objects ds = if all_objects ds then Some ds else None

-- an array of objects
abbrev pub objects_of : Member → Data → Result Items MetaFault
objects_of m d = asked (WrongKind m) (option_and_then if_objects (as_array d))

-- ---- a member that is needed

abbrev pub long_in : Member → Data → Result ℤ MetaFault
long_in m d = there m d >>= long_of m

abbrev pub int_in : Member → Data → Result ℤ MetaFault
int_in m d = there m d >>= int_of m

abbrev pub sequence_number_in : Member → Data → Result ℕ MetaFault
sequence_number_in m d = there m d >>= sequence_number_of m

-- 0 where it is left out; null is no number
abbrev pub number_or_zero : Member → Option Data → Result ℕ MetaFault
number_or_zero m None = Ok 0
number_or_zero m (Some d) = sequence_number_of m d

-- a sequence number that may be left out, as that of a snapshot is by format version 1
abbrev pub sequence_number_or_zero : Member → Data → Result ℕ MetaFault
sequence_number_or_zero m d = number_or_zero m (get (member_name m) d)

abbrev pub text_in : Member → Data → Result (List ℕ) MetaFault
text_in m d = there m d >>= text_of m

abbrev pub flag_in : Member → Data → Result Bool MetaFault
flag_in m d = there m d >>= flag_of m

abbrev pub objects_in : Member → Data → Result Items MetaFault
objects_in m d = there m d >>= objects_of m

-- ---- a member that may be left out

abbrev pub if_there : {A : Type 0} → (Data → Result A MetaFault) → Option Data → Result (Option A) MetaFault
if_there read None = Ok None
if_there read (Some d) = read d >>= λ x. Ok (Some x)

abbrev pub optional_long : Member → Data → Result (Option ℤ) MetaFault
optional_long m d = if_there (long_of m) (perhaps m d)

abbrev pub optional_int : Member → Data → Result (Option ℤ) MetaFault
optional_int m d = if_there (int_of m) (perhaps m d)

abbrev pub optional_text : Member → Data → Result (Option (List ℕ)) MetaFault
optional_text m d = if_there (text_of m) (perhaps m d)
