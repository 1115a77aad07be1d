-- Why the files that a table reaches are not told, of what reads gave: memory ran out, the metadata is refused, or of
-- some snapshot the manifest list or a manifest is absent, could not be read, or is at fault, as a compressed one is.
use Rattle.std.specs.Prelude.{◌≡◌, ◌⊎◌, ℕ, List, Some, None, Ok, Err}
use Rattle.std.specs.List.{Contains}
use Rattle.ice_desk.specs.Given.{Giving}
use Rattle.ice_manifest_fields.specs.declared.fault.ManifestFault.{ManifestFault}
use Rattle.ice_manifest_reading.specs.Manifests.{live_of}
use Rattle.ice_manifest_reading.specs.declared.row.Row.{Row}
use Rattle.ice_meta.specs.Targets.{Described, metadata_of}
use Rattle.ice_meta.specs.declared.fault.Member.TheVariants as member
use Rattle.ice_meta.specs.declared.fault.MetaFault.TheVariants as meta
use Rattle.ice_meta.specs.declared.snapshot.Snapshot.{Snapshot}
use Rattle.ice_state.specs.declared.fault.FinishFault.TheVariants as finish
use Rattle.icescan_reachable.specs.Given.{bare_spec}
use Rattle.icescan_reachable.specs.Named.{own_lines}
use Rattle.icescan_reachable.specs.Reaches.{HasRow}
use Rattle.icescan_text.specs.Faults.{of_meta}
use Rattle.icescan_text.specs.Reads.{IsUnread, as_run, rows_in}
use Rattle.icescan_text.specs.declared.fault.RunFault.{RunFault}
use Rattle.icescan_text.specs.declared.fault.RunFault.TheVariants as run

-- an item of the metadata names no file
abbrev pub unnamed : RunFault
unnamed = run.Metadata (meta.WrongKind member.Element)

-- a snapshot has no manifest list
abbrev pub unlisted : RunFault
unlisted = run.Metadata (meta.Missing member.ManifestList)

abbrev pub LacksList : List Snapshot → Type 0
LacksList snapshots = (snapshot : Snapshot) × Contains snapshots snapshot × (snapshot.manifest_list ≡ None)

-- memory ran out, or the refusal is this one and has this cause
abbrev pub IsFor : RunFault → Type 0 → RunFault → Type 0
IsFor why cause fault = (fault ≡ run.Memory) ⊎ ((fault ≡ why) × cause)

-- memory ran out, or a row's manifest of these bytes is at fault
abbrev pub IsAtFault : Row → List ℕ → RunFault → Type 0
IsAtFault row bytes fault = (fault ≡ run.Memory) ⊎ ((why : ManifestFault)
    × (live_of row (bare_spec row) bytes ≡ Err why) × (fault ≡ run.Finish (finish.Bad row.path why)))

module _ (gives : Giving) (may_fail : List ℕ → Type 0) where
  -- the manifest list at a path could not be read, or is at fault
  abbrev pub IsOfList : List ℕ → RunFault → Type 0
  IsOfList list fault = IsUnread gives may_fail list fault
      ⊎ ((bytes : List ℕ) × gives list (Some bytes) × (rows_in bytes ≡ Err fault))

  -- the same of the manifest list of one of these snapshots
  abbrev pub IsOfSnapshot : List Snapshot → RunFault → Type 0
  IsOfSnapshot snapshots fault = (snapshot : Snapshot) × Contains snapshots snapshot × (list : List ℕ)
      × (snapshot.manifest_list ≡ Some list) × IsOfList list fault

  -- a row's manifest could not be read, or is at fault
  abbrev pub IsOfManifest : Row → RunFault → Type 0
  IsOfManifest row fault = IsUnread gives may_fail row.path fault
      ⊎ ((bytes : List ℕ) × gives row.path (Some bytes) × IsAtFault row bytes fault)

  -- why the files that the metadata at a path reaches are not told
  abbrev pub IsOfMetadata : List ℕ → Described → RunFault → Type 0
  IsOfMetadata path metadata fault = IsFor unnamed (own_lines path metadata.json ≡ None) fault
      ⊎ (IsFor unlisted (LacksList metadata.table.snapshots) fault
      ⊎ (IsOfSnapshot metadata.table.snapshots fault
      ⊎ ((row : Row) × HasRow gives metadata row × IsOfManifest row fault)))

  -- the same of metadata that a read of the path gave, or the metadata could not be read, or is at fault
  abbrev pub IsRefused : List ℕ → RunFault → Type 0
  IsRefused path fault = IsUnread gives may_fail path fault
      ⊎ ((bytes : List ℕ) × gives path (Some bytes)
      × ((as_run of_meta (metadata_of bytes) ≡ Err fault)
      ⊎ ((metadata : Described) × (metadata_of bytes ≡ Ok metadata) × IsOfMetadata path metadata fault)))
