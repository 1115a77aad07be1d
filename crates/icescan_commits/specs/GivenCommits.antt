-- The commits to tables whose files may change from one read to the next: what they write, of bytes that reads gave.
use Rattle.std.specs.Prelude.{◌≡◌, ◌⊎◌, ℕ, List, [], ◌∷◌, Option, Some, None, Result, Ok, Err, IsErrOf}
use Rattle.std.specs.Prelude.{OnErr, OnOk}
use Rattle.std.specs.FinMap.{empty}
use Rattle.ice_catalog_changes.specs.declared.change.Change.{Change}
use Rattle.ice_catalog_changes.specs.declared.change.Commit.{Commit}
use Rattle.ice_catalog_versions.specs.declared.world.World.{World as Kept}
use Rattle.ice_catalog_versions.specs.Histories.{openable}
use Rattle.ice_desk.specs.Given.{Giving}
use Rattle.ice_meta.specs.declared.fault.MetaFault.{MetaFault}
use Rattle.ice_meta.specs.declared.metadata.Target.TheVariants.{Main}
use Rattle.ice_meta.specs.Targets.{Described, list_of}
use Rattle.icescan_files.specs.Bundles.{File}
use Rattle.icescan_commits.specs.Commits.{Commitment, IsLeft, Made, commitment_on, keep_found, manifests_in}
use Rattle.icescan_text.specs.Changes.{change_of}
use Rattle.icescan_text.specs.declared.fault.RunFault.{RunFault}
use Rattle.icescan_text.specs.declared.fault.RunFault.TheVariants as run
use Rattle.icescan_text.specs.declared.request.CommitRequest.{CommitRequest}

-- These files were read in turn, and those that were there were added to what was kept.
abbrev pub WereKept : Giving → List (List ℕ) → Kept → Kept → Type 0
WereKept gives [] kept kept' = kept' ≡ kept
WereKept gives (path ∷ paths) kept kept' =
    (found : Option (List ℕ)) × gives path found × WereKept gives paths (keep_found path found kept) kept'

-- The files of the table that a commit is made on: a read gave the list, and reads gave the manifests that it names;
-- those that were there are kept. A table without a current snapshot has none.
abbrev pub IsBaseGiven : Giving → Result (List ℕ) MetaFault → Kept → Type 0
IsBaseGiven gives (Err fault) kept = kept ≡ empty
IsBaseGiven gives (Ok list) kept = (found : Option (List ℕ)) × gives list found
    × WereKept gives (manifests_in found) (keep_found list found empty) kept

-- The change that is asked for: a read of its path gave its text.
abbrev pub IsChangeGiven : Giving → CommitRequest → Change → Type 0
IsChangeGiven gives request change = (text : List ℕ) × gives request.change (Some text)
    × (change_of request.kind text ≡ Ok change)

-- What a commit writes to the table with this metadata, whose files reads gave.
pub record IsCommitOfGiven (gives : Giving) (bytes : List ℕ) (commit : Commit) (c : Commitment) : Type 0 where
  pub metadata : Described
  pub opens : openable bytes ≡ Ok metadata
  pub kept : Kept
  pub base : IsBaseGiven gives (list_of Main metadata.table) kept
  pub is : commitment_on (record { metadata = metadata; world = kept }) commit ≡ Ok c

-- What a request to commit writes: reads gave the metadata, the change and the table's files.
pub record IsCommitmentOfGiven (gives : Giving) (request : CommitRequest) (c : Commitment) : Type 0 where
  pub bytes : List ℕ
  pub read : gives request.metadata (Some bytes)
  pub change : Change
  pub asked : IsChangeGiven gives request change
  pub committed : IsCommitOfGiven gives bytes (record { change = change; ids = request.ids }) c

-- What a request to commit does to a store: it puts a commit of given bytes, its metadata last, and tells it. Where it
-- is refused, the store has what it had, or what such a commit leaves that is refused; and of a file that is called
-- absent a read gave that there is none.
pub record CommitsOfGiven (gives : Giving) (request : CommitRequest) (result : Result Unit RunFault)
    (files files' : Option (List File)) (output output' : Option (List ℕ)) : Type 0 where
  pub made : OnOk result ((c : Commitment) × IsCommitmentOfGiven gives request c
      × Made c request files files' output output')
  pub left : OnErr result ((files' ≡ files)
      ⊎ ((c : Commitment) × IsCommitmentOfGiven gives request c × IsLeft c request.out files files'))
  pub absent : (path : List ℕ) → IsErrOf result (run.Absent path) → gives path None
