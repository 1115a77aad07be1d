-- What is live after a commit: what was live before it, and the files that it adds (Apache Iceberg table spec v2,
-- "Snapshots", "Manifest Lists" and "Sequence Number Inheritance").
use Rattle.std.specs.Prelude.{◌≡◌, ◌≤◌, ℕ, List, [], ◌∷◌, length, Option, Some, Ok}
use Rattle.std.specs.List.{AllByRecursion}
use Rattle.std.specs.List.Sorted.{IsStrictlySortedBy}
use Rattle.ice_manifest_reading.specs.declared.entry.Entry.{Entry}
use Rattle.ice_manifest_reading.specs.declared.row.Row.{Row}
use Rattle.ice_manifest.specs.Fitting.{IsReadable}
use Rattle.ice_manifest_reading.specs.Lists.{path_order, rows_of}
use Rattle.ice_manifest_reading.specs.Manifests.{entries_of}
use Rattle.ice_manifest.specs.Writing.{list_bytes, new_entries}
use Rattle.ice_catalog_changes.specs.declared.change.Commit.{Commit}
use Rattle.ice_catalog_changes.specs.declared.change.Ids.{Ids}
use Rattle.ice_catalog_versions.specs.Adding.{NewManifest, bytes_of, manifests_from, next_rows, next_sequence, row_of}
use Rattle.ice_catalog_versions.specs.Bases.{base_rows, current_rows, manifest_at, table_specs}
use Rattle.ice_catalog_versions.specs.Groups.{groups}
use Rattle.ice_catalog_versions.specs.Histories.{History, after, state_of, step}
use Rattle.ice_catalog_versions.specs.States.{State}
use Rattle.ice_catalog_versions.specs.Staying.{IsNewTo}

-- ---- what is written is read again

-- of the new manifest the entries of its files are read, with the numbers of the row under which it is read
abbrev pub IsReadBack : NewManifest → Type 0
IsReadBack added = (row : Row) → row.content ≡ added.heading.content
    → entries_of row added.heading.spec (bytes_of added) ≡ Ok (new_entries row added.heading 0 added.files)

-- of the list its rows are read, where they can be read at all and have different paths
abbrev pub AreReadBack : List Row → Ids → Type 0
AreReadBack rows ids = AllByRecursion IsReadable rows → IsStrictlySortedBy path_order rows → length rows ≤ 65536
    → rows_of (list_bytes rows ids.uuid) ≡ Ok rows

-- ---- what is live

-- the manifests that a commit adds
abbrev pub new_manifests : State → Commit → List NewManifest
new_manifests s c = manifests_from s.metadata c.ids 0 (groups c.change)

-- the rows of the base and theirs, in the order of their paths
abbrev pub rows_after : State → Commit → List Row
rows_after s c = next_rows (base_rows s.world s.metadata.table) (next_sequence s.metadata.table) (new_manifests s c)

-- the row of a new manifest
abbrev pub added_row : State → NewManifest → Row
added_row s added = row_of (next_sequence s.metadata.table) added

-- the entries of its files
abbrev pub added_entries : State → NewManifest → List Entry
added_entries s added = new_entries (added_row s added) added.heading 0 added.files

abbrev pub HaveNumber : ℕ → List Entry → Type 0
HaveNumber number entries = AllByRecursion (λ (entry : Entry). entry.sequence_number ≡ number) entries

-- the rows of the current snapshot
abbrev pub listed_rows : State → Option (List Row)
listed_rows s = current_rows s.world s.metadata.table

-- the live entries of a row's manifest
abbrev pub entries_at : State → Row → Option (List Entry)
entries_at s row = manifest_at s.world (table_specs s.metadata.table) row

-- The next state's rows are the base's and those of the new manifests. The base's manifests have the live entries that
-- they had; the new ones have an entry for each of their files, with the next sequence number.
pub record HasBaseAndChange (s : State) (c : Commit) (t : State) : Type 0 where
  pub rows : listed_rows t ≡ Some (rows_after s c)
  pub base : AllByRecursion (λ row. entries_at t row ≡ entries_at s row) (base_rows s.world s.metadata.table)
  pub added : AllByRecursion (λ added. entries_at t (added_row s added) ≡ Some (added_entries s added))
      (new_manifests s c)
  pub numbers : AllByRecursion (λ added. HaveNumber (next_sequence s.metadata.table) (added_entries s added))
      (new_manifests s c)

-- so is what the commit leaves of a history's state where none of its files takes the place of one that is there
abbrev pub AddsToBase : History → Commit → Type 0
AddsToBase h c = (s t : State) → state_of h ≡ Some s → step (Some s) c ≡ Some t → IsNewTo s c
    → HasBaseAndChange s c t

-- ---- histories

-- each of these commits adds to what those before it leave
abbrev pub AddInTurn : History → List Commit → Type 0
AddInTurn h [] = Unit {0}
AddInTurn h (c ∷ cs) = AddsToBase h c × AddInTurn (after h c) cs

-- each commit of a history added to what was there before it
abbrev pub IsGrown : History → Type 0
IsGrown h = AddInTurn (record { opening = h.opening; journal = [] }) h.journal
