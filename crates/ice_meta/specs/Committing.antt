-- The metadata that a commit leaves (Apache Iceberg table spec v2, "Table Metadata Fields", "Snapshots" and "Snapshot
-- References"): the new snapshot is added, is the current one, and is what the branch `main` names. The table's uuid is
-- written in its hyphenated form (RFC 4122, section 3). All else is kept, also what this crate does not read.
use Rattle.std.specs.Prelude.{◌≡◌, ◌<◌, ◌^◌, ◌++◌, ℕ, suc, ℤ, pos, negsuc, false, List, [], ◌∷◌, Option, None, Some}
use Rattle.std.specs.Prelude.{IfSome, codes, Result, Ok}
use Rattle.std.specs.Cmp.Lexicographic.{slice_cmp}
use Rattle.std.specs.Ordering.{nat_cmp, int_eq, match_ordering}
use Rattle.contract_words.specs.Outcome.{◌>>=◌}
use Rattle.serde_json.specs.Data as json
use Rattle.serde_json.specs.Data.{Data}
use Rattle.uuid.specs.Text.{hyphenated_text, lower}
use Rattle.ice_meta_json.specs.Objects.{whole, natural, no_object, inside, set, one_more}
use Rattle.ice_meta.specs.declared.commit.NewSnapshot.{NewSnapshot}
use Rattle.ice_meta.specs.declared.commit.Operation.{Operation}
use Rattle.ice_meta.specs.declared.commit.Operation.TheVariants as operation
use Rattle.ice_meta.specs.declared.fault.Member.TheVariants as member
use Rattle.ice_meta.specs.declared.fault.MetaFault.{MetaFault}
use Rattle.ice_meta.specs.declared.snapshot.Ref.{Ref}
use Rattle.ice_meta.specs.declared.snapshot.RefKind.TheVariants as kind
use Rattle.ice_meta.specs.declared.snapshot.Snapshot.{Snapshot}
use Rattle.ice_meta.specs.declared.table.Table.{Table}
use Rattle.ice_meta.specs.Logs.{newest_time}
use Rattle.ice_meta.specs.Members.{member_name}
use Rattle.ice_meta.specs.Tables.{table_of}
use Rattle.ice_meta.specs.Targets.{Described, snapshot_with}

-- what the summary of a snapshot calls the change
abbrev pub operation_name : Operation → List ℕ
operation_name operation.Append = codes "append"
operation_name operation.Delete = codes "delete"
operation_name operation.Overwrite = codes "overwrite"

-- ---- the new snapshot

-- The snapshot from which it was made is left out where there is none.
abbrev pub with_parent : Option ℤ → Data → Data
with_parent None d = d
with_parent (Some id) d = set (member_name member.ParentSnapshotId) (whole id) d

abbrev pub summary_json : NewSnapshot → Data
summary_json s = set (member_name member.Operation) (json.string (operation_name s.operation)) no_object

unfoldable pub snapshot_json : Table → NewSnapshot → Data
snapshot_json t s =
    with_parent t.current_snapshot_id
    (set (member_name member.Summary) (summary_json s)
    (set (member_name member.SchemaId) (whole t.current_schema_id)
    (set (member_name member.ManifestList) (json.string s.manifest_list)
    (set (member_name member.TimestampMs) (whole s.timestamp_ms)
    (set (member_name member.SequenceNumber) (natural (suc t.last_sequence_number))
    (set (member_name member.SnapshotId) (whole s.id) no_object))))))

-- an element of the snapshot log: when which snapshot came to be the current one
unfoldable pub log_json : NewSnapshot → Data
log_json s =
    set (member_name member.SnapshotId) (whole s.id)
    (set (member_name member.TimestampMs) (whole s.timestamp_ms) no_object)

-- ---- the members that change

-- the object in which the value of a member is changed
abbrev pub changed : List ℕ → (Data → Data) → Data → Data
changed name change d = set name (change (inside name d)) d

-- the branch, moved to a snapshot; what else it says is kept
abbrev pub branch_to : ℤ → Data → Data
branch_to id d =
    set (member_name member.Type) (json.string (codes "branch"))
    (set (member_name member.SnapshotId) (whole id) d)

unfoldable pub refs_json : NewSnapshot → Data → Data
refs_json s = changed (codes "main") (branch_to s.id)

abbrev pub with_refs : NewSnapshot → Data → Data
with_refs s = changed (member_name member.Refs) (refs_json s)

abbrev pub with_log : NewSnapshot → Data → Data
with_log s = changed (codes "snapshot-log") (one_more (log_json s))

abbrev pub with_snapshots : Table → NewSnapshot → Data → Data
with_snapshots t s = changed (member_name member.Snapshots) (one_more (snapshot_json t s))

-- the hyphenated text of a uuid: its 32 hexadecimal digits in lower case, in five groups
abbrev pub uuid_json : List ℕ → Data
uuid_json uuid = json.string (hyphenated_text lower uuid)

-- the metadata after the commit
unfoldable pub next_json : Table → NewSnapshot → Data → Data
next_json t s d =
    set (member_name member.TableUuid) (uuid_json t.uuid)
    (set (member_name member.LastSequenceNumber) (natural (suc t.last_sequence_number))
    (set (member_name member.LastUpdatedMs) (whole s.timestamp_ms)
    (set (member_name member.CurrentSnapshotId) (whole s.id)
    (with_snapshots t s (with_log s (with_refs s d))))))

-- the members that it writes
abbrev pub written_members : List (List ℕ)
written_members =
    member_name member.TableUuid ∷ member_name member.LastSequenceNumber ∷ member_name member.LastUpdatedMs ∷
    member_name member.CurrentSnapshotId ∷ member_name member.Snapshots ∷ codes "snapshot-log" ∷
    member_name member.Refs ∷ []

-- The time of the commit is when its metadata were written, and when its snapshot came to be the current one.
pub record HasTime (time : ℤ) (m : Described) : Type 0 where
  pub updated : m.table.last_updated_ms ≡ time
  pub logged : newest_time m.json ≡ Some time

-- the same as metadata, or the first fault with which it could not be read again
unfoldable pub committed : Described → NewSnapshot → Result Described MetaFault
committed m s = do
  t ← table_of (next_json m.table s m.json)
  Ok (record { json = next_json m.table s m.json; table = t })

-- ---- what the metadata then says

-- the snapshot that is added
abbrev pub new_snapshot : Table → NewSnapshot → Snapshot
new_snapshot t s = record {
  id = s.id;
  parent_id = t.current_snapshot_id;
  sequence_number = suc t.last_sequence_number;
  timestamp_ms = s.timestamp_ms;
  manifest_list = Some s.manifest_list;
  operation = Some (operation_name s.operation);
  schema_id = Some t.current_schema_id;
}

-- the branch main, at the new snapshot
abbrev pub main_at : NewSnapshot → Ref
main_at s = record { name = codes "main"; snapshot_id = s.id; kind = kind.Branch }

-- the refs with this one in the place of its name
abbrev pub placed : Ref → List Ref → List Ref
placed r [] = r ∷ []
placed r (q ∷ qs) = match_ordering (slice_cmp nat_cmp r.name q.name) (r ∷ q ∷ qs) (r ∷ qs) (q ∷ placed r qs)

-- the table after the commit
abbrev pub next_table : Table → NewSnapshot → Table
next_table t s = record {
  uuid = t.uuid;
  location = t.location;
  last_sequence_number = suc t.last_sequence_number;
  last_updated_ms = s.timestamp_ms;
  last_column_id = t.last_column_id;
  schemas = t.schemas;
  current_schema_id = t.current_schema_id;
  specs = t.specs;
  default_spec_id = t.default_spec_id;
  last_partition_id = t.last_partition_id;
  current_snapshot_id = Some s.id;
  snapshots = t.snapshots ++ new_snapshot t s ∷ [];
  refs = placed (main_at s) t.refs;
}

abbrev pub next_metadata : Described → NewSnapshot → Described
next_metadata m s = record { json = next_json m.table s m.json; table = next_table m.table s }

-- The table can have the snapshot: no other one has its id, nor does it stand for none, and the next sequence number is
-- a long.
pub record CanFollow (t : Table) (s : NewSnapshot) : Type 0 where
  pub id_is_new : snapshot_with s.id t ≡ None
  pub id_is_one : int_eq s.id (negsuc 0) ≡ false
  pub number_fits : suc t.last_sequence_number < 2 ^ 63

-- a number of 64 bits
abbrev pub IsLong : ℤ → Type 0
IsLong (pos n) = n < 2 ^ 63
IsLong (negsuc n) = n < 2 ^ 63

-- the numbers that a commit writes have 64 bits
pub record AreLongs (t : Table) (s : NewSnapshot) : Type 0 where
  pub id : IsLong s.id
  pub timestamp_ms : IsLong s.timestamp_ms
  pub parent_id : IfSome t.current_snapshot_id IsLong
