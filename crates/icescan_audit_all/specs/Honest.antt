-- Snapshots whose live files are honest.
use Rattle.std.specs.Prelude.{◌≡◌, ℕ, ℤ, List, Ok}
use Rattle.std.specs.List.{Contains}
use Rattle.ice_meta.specs.Targets.{Described, metadata_of}
use Rattle.ice_meta.specs.declared.metadata.Target.TheVariants as target
use Rattle.ice_state.specs.Contents.{World}
use Rattle.icescan_audit.specs.Premises.{HasHonestFiles}
use Rattle.icescan_text.specs.Reads.{file_in}
use Rattle.icescan_audit_all.specs.Snapshots.{ids_of}

-- the live files of each snapshot of the table whose metadata is in the file at a path, where there is such a file, are
-- honest as far as metadata tell
abbrev pub HasHonestSnapshotsAt : World → List ℕ → Type 0
HasHonestSnapshotsAt world path = (metadata : List ℕ) (d : Described) (id : ℤ) → file_in world path ≡ Ok metadata
    → metadata_of metadata ≡ Ok d → Contains (ids_of d.table) id → HasHonestFiles world metadata (target.Snapshot id)
