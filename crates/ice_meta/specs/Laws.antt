-- What a commit comes to, in words of tables alone (Apache Iceberg table spec v2, "Snapshots" and "Snapshot
-- References"), and what filling in the sequence numbers of an upgraded table does.
use Rattle.std.specs.Prelude.{◌≡◌, ◌≢◌, ℤ, List, ℕ, false, Some, Ok, codes}
use Rattle.std.specs.List.{list_any}
use Rattle.std.specs.Str.{bytes_eq}
use Rattle.serde_json.specs.Data.{Data}
use Rattle.serde_json.specs.Find.{get}
use Rattle.ice_meta_json.specs.Upgraded.{filled, IsFilled}
use Rattle.ice_meta.specs.declared.commit.NewSnapshot.{NewSnapshot}
use Rattle.ice_meta.specs.declared.fault.Member.TheVariants as member
use Rattle.ice_meta.specs.declared.metadata.Target.TheVariants as target
use Rattle.ice_meta.specs.declared.table.Table.{Table}
use Rattle.ice_meta.specs.Logs.{newest_time}
use Rattle.ice_meta.specs.Members.{member_name, long_in}
use Rattle.ice_meta.specs.Tables.{uuid_in, table_of}
use Rattle.ice_meta.specs.Targets.{schema_with, spec_with, snapshot_with, ref_with, resolved}
use Rattle.ice_meta.specs.Committing.{new_snapshot, main_at, uuid_json, next_json, written_members, next_table}
use Rattle.ice_meta.specs.Committing.{CanFollow, IsLong, AreLongs}

-- Where the table can have the snapshot, the JSON after the commit says the table after the commit.
abbrev pub SaysTheNext : Type 0
SaysTheNext = (d : Data) (t : Table) (s : NewSnapshot) → table_of d ≡ Ok t → CanFollow t s → AreLongs t s
    → table_of (next_json t s d) ≡ Ok (next_table t s)

-- ---- what is new

-- the snapshot is there under its id
abbrev pub HasTheNew : Type 0
HasTheNew = (t : Table) (s : NewSnapshot) → CanFollow t s
    → snapshot_with s.id (next_table t s) ≡ Some (new_snapshot t s)

-- it is the current one
abbrev pub MakesItCurrent : Type 0
MakesItCurrent = (t : Table) (s : NewSnapshot) → CanFollow t s → resolved target.Main (next_table t s) ≡ Ok s.id

-- the branch main names it
abbrev pub MovesMain : Type 0
MovesMain = (t : Table) (s : NewSnapshot) → ref_with (codes "main") (next_table t s) ≡ Some (main_at s)

-- ---- how it is written

-- the table's id as text with hyphens, in lower case
abbrev pub WritesTheUuid : Type 0
WritesTheUuid = (d : Data) (t : Table) (s : NewSnapshot)
    → get (member_name member.TableUuid) (next_json t s d) ≡ Some (uuid_json t.uuid)

-- which is the id that was read
abbrev pub ReadsTheUuid : Type 0
ReadsTheUuid = (d : Data) (t : Table) (s : NewSnapshot) → uuid_in d ≡ Ok t.uuid → uuid_in (next_json t s d) ≡ Ok t.uuid

-- when the metadata were written
abbrev pub UpdatesAtItsTime : Type 0
UpdatesAtItsTime = (d : Data) (t : Table) (s : NewSnapshot) → IsLong s.timestamp_ms
    → long_in member.LastUpdatedMs (next_json t s d) ≡ Ok s.timestamp_ms

-- when the snapshot came to be the current one, by the last element of the snapshot log
abbrev pub LogsItsTime : Type 0
LogsItsTime = (d : Data) (t : Table) (s : NewSnapshot) → IsLong s.timestamp_ms
    → newest_time (next_json t s d) ≡ Some s.timestamp_ms

-- ---- what stays

-- each member that a commit does not write
abbrev pub KeepsOtherMembers : Type 0
KeepsOtherMembers = (d : Data) (t : Table) (s : NewSnapshot) (name : List ℕ)
    → list_any (bytes_eq name) written_members ≡ false → get name (next_json t s d) ≡ get name d

-- each other snapshot, none new under another id
abbrev pub KeepsOtherSnapshots : Type 0
KeepsOtherSnapshots = (t : Table) (s : NewSnapshot) (id : ℤ) → id ≢ s.id
    → snapshot_with id (next_table t s) ≡ snapshot_with id t

-- each other branch and each tag
abbrev pub KeepsOtherRefs : Type 0
KeepsOtherRefs = (t : Table) (s : NewSnapshot) (name : List ℕ) → name ≢ codes "main"
    → ref_with name (next_table t s) ≡ ref_with name t

-- a branch or tag that led to a snapshot leads to it still
abbrev pub KeepsOtherTargets : Type 0
KeepsOtherTargets = (t : Table) (s : NewSnapshot) (name : List ℕ) (id : ℤ) → name ≢ codes "main"
    → resolved (target.Ref name) t ≡ Ok id → resolved (target.Ref name) (next_table t s) ≡ Ok id

-- a snapshot that could be planned can be planned still
abbrev pub KeepsHistory : Type 0
KeepsHistory = (t : Table) (s : NewSnapshot) (id : ℤ) → resolved (target.Snapshot id) t ≡ Ok id
    → resolved (target.Snapshot id) (next_table t s) ≡ Ok id

abbrev pub KeepsSchemas : Type 0
KeepsSchemas = (t : Table) (s : NewSnapshot) (id : ℤ) → schema_with id (next_table t s) ≡ schema_with id t

abbrev pub KeepsSpecs : Type 0
KeepsSpecs = (t : Table) (s : NewSnapshot) (id : ℤ) → spec_with id (next_table t s) ≡ spec_with id t

-- ---- upgraded tables

-- A document whose sequence numbers are filled in says the same table, or is refused for the same.
abbrev pub SaysTheSame : Type 0
SaysTheSame = (d : Data) → table_of (filled d) ≡ table_of d

-- A commit to a document that leaves out no sequence number leaves out none.
abbrev pub StaysFilled : Type 0
StaysFilled = (d : Data) (t : Table) (s : NewSnapshot) → IsFilled d → IsFilled (next_json t s d)
