-- What is live after a commit, entry by entry (Apache Iceberg table spec v2, "Snapshots", "Manifests" and
-- "Sequence Number Inheritance").
use Rattle.std.specs.Prelude.{◌≡◌, ◌↔◌, ◌⊎◌, ℕ, List, filter, slice_get, Some}
use Rattle.std.specs.List.{Contains, flat_map}
use Rattle.ice_value.specs.Formats.{format_named}
use Rattle.ice_meta.specs.Partitioning.{is_unpartitioned}
use Rattle.ice_manifest_reading.specs.declared.data_file.DataFile.{DataFile}
use Rattle.ice_manifest_reading.specs.declared.entry.Entry.{Entry}
use Rattle.ice_manifest.specs.declared.new_file.NewFile.{NewFile}
use Rattle.ice_catalog_changes.specs.declared.change.Change.{Change}
use Rattle.ice_catalog_changes.specs.declared.change.Commit.{Commit}
use Rattle.ice_catalog_versions.specs.Adding.{next_sequence, spec_or_none}
use Rattle.ice_catalog_versions.specs.Bases.{live_entries, spec_in, table_specs}
use Rattle.ice_catalog_versions.specs.Groups.{is_of_spec}
use Rattle.ice_catalog_versions.specs.Live.{HasBaseAndChange, added_entries, new_manifests}
use Rattle.ice_catalog_versions.specs.Refusals.{all_files}
use Rattle.ice_catalog_versions.specs.States.{State}

-- the entry is live in the current snapshot
abbrev pub IsLive : State → Entry → Type 0
IsLive s e = Contains (live_entries s.world s.metadata.table) e

-- the entries of the manifests that a commit adds
abbrev pub new_live : State → Commit → List Entry
new_live s c = flat_map (added_entries s) (new_manifests s c)

-- ---- the entries of a commit's files

-- what a manifest keeps of a file
abbrev pub data_file : NewFile → DataFile
data_file f = record {
  content = f.content;
  format = format_named f.format;
  path = f.path;
  tuple = f.tuple;
  record_count = f.record_count;
  file_size = f.file_size;
  equality_ids = f.equality_ids;
  referenced = f.referenced;
}

-- the place of a file among the files of its manifest: those of its spec, data files and deletes apart
abbrev pub StandsAt : Change → NewFile → ℕ → Type 0
StandsAt c f place = (slice_get (filter (is_of_spec f.spec_id) c.files) place ≡ Some f)
    ⊎ (slice_get (filter (is_of_spec f.spec_id) c.deletes) place ≡ Some f)

-- the entry is what the commit adds of the file
pub record IsEntryOf (s : State) (c : Commit) (f : NewFile) (e : Entry) : Type 0 where
  pub file : e.file ≡ data_file f
  pub position : StandsAt c.change f e.position
  pub spec : e.spec_id ≡ f.spec_id
  pub unpartitioned : e.unpartitioned
      ≡ is_unpartitioned (spec_or_none f.spec_id (spec_in (table_specs s.metadata.table) f.spec_id))
  pub snapshot : e.snapshot_id ≡ c.ids.snapshot
  pub number : e.sequence_number ≡ next_sequence s.metadata.table
  pub file_number : e.file_sequence_number ≡ Some (next_sequence s.metadata.table)

-- it is that of one of the change's files
abbrev pub IsOfChange : State → Commit → Entry → Type 0
IsOfChange s c e = (f : NewFile) × Contains (all_files c.change) f × IsEntryOf s c f e

-- the entries of the manifests that are added are those of the change's files
abbrev pub AddsItsFiles : Type 0
AddsItsFiles = (s : State) (c : Commit) (e : Entry) → Contains (new_live s c) e ↔ IsOfChange s c e

-- ---- what is live

-- Where a commit leaves what its base has and adds its own, an entry is live exactly where it was live before or is in
-- a manifest that is added,
abbrev pub JoinsManifests : Type 0
JoinsManifests = (s t : State) (c : Commit) (e : Entry) → HasBaseAndChange s c t
    → IsLive t e ↔ (IsLive s e ⊎ Contains (new_live s c) e)

-- so exactly where it was live before or is that of one of the change's files,
abbrev pub JoinsFiles : Type 0
JoinsFiles = (s t : State) (c : Commit) (e : Entry) → HasBaseAndChange s c t
    → IsLive t e ↔ (IsLive s e ⊎ IsOfChange s c e)

-- and each of these files has its entry.
abbrev pub EachIsLive : Type 0
EachIsLive = (s t : State) (c : Commit) (f : NewFile) → HasBaseAndChange s c t
    → Contains (all_files c.change) f → (e : Entry) × IsLive t e × IsEntryOf s c f e
