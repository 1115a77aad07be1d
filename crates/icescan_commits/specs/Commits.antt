-- What a commit to a table writes: Apache Iceberg table spec, version 2, "Optimistic Concurrency" and
-- "File System Tables". It is made on the table's current snapshot; the metadata that names the new files comes last,
-- so that whoever reads the table has all of the commit or none of it.
use Rattle.std.specs.Prelude.{◌≡◌, ◌⊎◌, false, ℕ, ℤ, List, [], ◌∷◌, ◌++◌, codes, Option, Some, None, option_map, Result}
use Rattle.std.specs.Prelude.{Ok, Err, IfErr, IsErrOf, OnOk, if◌then◌else◌}
use Rattle.std.specs.FinMap.{empty, insert}
use Rattle.std.specs.List.{flat_map}
use Rattle.hex.specs.Hex.{encode_lower}
use Rattle.contract_words.specs.Outcome.{◌>>=◌}
use Rattle.serde_json.specs.Written.{compact_text, has_float}
use Rattle.ice_catalog_changes.specs.declared.change.Change.{Change}
use Rattle.ice_catalog_changes.specs.declared.change.Commit.{Commit}
use Rattle.ice_catalog_changes.specs.NewFiles.{Added}
use Rattle.ice_catalog_versions.specs.declared.world.World.{World as Kept}
use Rattle.ice_catalog_versions.specs.Applying.{apply}
use Rattle.ice_catalog_versions.specs.Adding.{added}
use Rattle.ice_catalog_versions.specs.Histories.{Step, added_on, after, openable, state_of}
use Rattle.ice_catalog_versions.specs.States.{State}
use Rattle.ice_desk.specs.Wanted.{paths_of}
use Rattle.ice_desk.specs.Worlds.{HasAt}
use Rattle.ice_manifest_fields.specs.declared.fault.ListFault.{ListFault}
use Rattle.ice_manifest_reading.specs.declared.row.Row.{Row}
use Rattle.ice_manifest_reading.specs.Lists.{rows_of}
use Rattle.ice_meta.specs.declared.fault.MetaFault.{MetaFault}
use Rattle.ice_meta.specs.declared.metadata.Target.TheVariants.{Main}
use Rattle.ice_meta.specs.Targets.{Described, list_of, metadata_of}
use Rattle.ice_state.specs.Contents.{World}
use Rattle.icescan_files.specs.Bundles.{File, bundle_of, bytes_at}
use Rattle.icescan_text.specs.Changes.{change_of}
use Rattle.icescan_print.specs.Escaping.{escaped}
use Rattle.icescan_text.specs.Faults.{of_change, of_meta, of_prepare}
use Rattle.icescan_text.specs.Reads.{MayEnd, as_run, file_in}
use Rattle.icescan_print.specs.Pieces.{named_number, named_signed}
use Rattle.icescan_files.specs.Disks.{ArePlaced, Event, Names, NotPlacedAt, StopsPlacing}
use Rattle.icescan_files.specs.declared.store.StoreFault.{StoreFault}
use Rattle.icescan_files.specs.Stores.{MayHave, PutsAll, PutsFront, StopsAt, WereFree}
use Rattle.icescan_print.specs.Written.{Appends, AppendsFront}
use Rattle.icescan_text.specs.declared.request.CommitRequest.{CommitRequest}
use Rattle.icescan_files.specs.declared.store.StoreFault.TheVariants as store
use Rattle.icescan_text.specs.declared.fault.RunFault.{RunFault}
use Rattle.icescan_text.specs.declared.fault.RunFault.TheVariants as run

-- ---- what is read of the table

-- a file that is there, among those that were read
abbrev pub keep_found : List ℕ → Option (List ℕ) → Kept → Kept
keep_found path None kept = kept
keep_found path (Some bytes) kept = insert kept path bytes

-- why a file is not read: reading failed where it may, or memory ran out
abbrev pub IsReadFault : (List ℕ → Type 0) → RunFault → Type 0
IsReadFault may_fail (run.Device path) = may_fail path
IsReadFault may_fail run.Memory = Unit {0}
IsReadFault may_fail _ = ⊥

-- those of these files that are there
abbrev pub keep_all : World → List (List ℕ) → Kept → Kept
keep_all world [] kept = kept
keep_all world (path ∷ paths) kept = keep_all world paths (keep_found path (world path) kept)

-- the manifests that a list names, where it is there and can be read
abbrev pub named_by : Result (List Row) ListFault → List (List ℕ)
named_by (Ok rows) = paths_of rows
named_by (Err fault) = []

abbrev pub manifests_in : Option (List ℕ) → List (List ℕ)
manifests_in None = []
manifests_in (Some bytes) = named_by (rows_of bytes)

-- the list and its manifests, those that are there; a table without a current snapshot has none
unfoldable pub base_files : World → Result (List ℕ) MetaFault → Kept
base_files world (Err fault) = empty
base_files world (Ok list) = keep_all world (manifests_in (world list)) (keep_found list (world list) empty)

-- the table that a commit is made on: its metadata, and the files of its current snapshot
abbrev pub base_of : World → Described → State
base_of world metadata = record { metadata = metadata; world = base_files world (list_of Main metadata.table) }

-- ---- what is written

-- the files that a commit adds, and the metadata that names them
pub record Commitment : Type 0 where
  pub added : Added
  pub metadata : Described

-- a commit on a base, or why it can't be made
unfoldable pub commitment_on : State → Commit → Result Commitment RunFault
commitment_on base commit =
    as_run of_prepare (apply base commit) >>= λ next.
    Ok (record { added = added base commit; metadata = next.metadata })

-- the change that is asked for, or why there is none
unfoldable pub change_asked : World → CommitRequest → Result Change RunFault
change_asked world request = file_in world request.change >>= λ text. as_run of_change (change_of request.kind text)

-- what a commit writes to the table of this metadata file, or why it can't be made
unfoldable pub commitment_from : World → List ℕ → Commit → Result Commitment RunFault
commitment_from world bytes commit =
    as_run of_meta (openable bytes) >>= λ metadata. commitment_on (base_of world metadata) commit

-- What a request to commit writes, or the first refusal: there is no metadata or no change at its path, the change
-- can't be read, the metadata can't be read or its current snapshot is not there, or the change can't be committed.
unfoldable pub commitment : World → CommitRequest → Result Commitment RunFault
commitment world request = do
  bytes ← file_in world request.metadata
  change ← change_asked world request
  commitment_from world bytes (record { change = change; ids = request.ids })

-- The bytes of a metadata file: they are read as the metadata; where no number in it has a fraction they are its JSON
-- without white space.
pub record IsTextOf (metadata : Described) (bytes : List ℕ) : Type 0 where
  pub reads : metadata_of bytes ≡ Ok metadata
  pub compact : has_float metadata.json ≡ false → bytes ≡ compact_text metadata.json

-- the files in the order in which they are written: the metadata comes last
abbrev pub in_order : Added → List ℕ → List ℕ → Added
in_order added out bytes = added ++ (out, bytes) ∷ []

-- what a prepared commit writes
pub record Writes (prepared : Step) (c : Commitment) : Type 0 where
  pub added : added_on prepared.base prepared.commit ≡ Some c.added
  pub metadata : option_map (λ s. s.metadata) (state_of (after prepared.base prepared.commit)) ≡ Some c.metadata

-- ---- texts

-- the line of a file in a bundle
abbrev pub file_line : List ℕ × List ℕ → List ℕ
file_line f = escaped f.0 ++ 32 ∷ (encode_lower f.1 ++ 10 ∷ [])

-- a bundle of files
abbrev pub bundle_lines : Added → List ℕ
bundle_lines files = flat_map file_line files

-- what is told of a commit that was made: the snapshot's id and its sequence number
unfoldable pub receipt_text : ℤ → ℕ → List ℕ
receipt_text id number =
    named_signed (codes "committed snapshot ") id ++ (named_number (codes " seq ") number ++ 10 ∷ [])

-- ---- what a commit leaves in a store

-- the whole of a commit was put: its files in their order, and then its metadata at this path, each where none stood
abbrev pub IsPut : Commitment → List ℕ → Option (List File) → Option (List File) → Type 0
IsPut c out files files' =
    (bytes : List ℕ) × IsTextOf c.metadata bytes × PutsAll files files' (in_order c.added out bytes) ×
    WereFree files (in_order c.added out bytes)

-- a commit was made: its files were put in their order, each where none stood, and it was told
pub record Made (c : Commitment) (request : CommitRequest) (files files' : Option (List File))
    (output output' : Option (List ℕ)) : Type 0 where
  pub bytes : List ℕ
  pub text : IsTextOf c.metadata bytes
  pub puts : PutsAll files files' (in_order c.added request.out bytes)
  pub free : WereFree files (in_order c.added request.out bytes)
  pub told : Appends output output' (receipt_text request.ids.snapshot c.metadata.table.last_sequence_number)

-- It was not: a front of the files that it adds was put, and its metadata was not.
abbrev pub Stopped : Commitment → Option (List File) → Option (List File) → Type 0
Stopped c files files' = PutsFront files files' c.added

-- What a commit that ends with a fault leaves: a front of its files without the metadata, or all, where only telling of
-- it failed.
abbrev pub IsLeft : Commitment → List ℕ → Option (List File) → Option (List File) → Type 0
IsLeft c out files files' = Stopped c files files' ⊎ IsPut c out files files'

-- A file stands where the metadata was to be: all other files were put.
pub record IsTaken (c : Commitment) (out path : List ℕ) (files files' : Option (List File)) : Type 0 where
  pub place : path ≡ out
  pub puts : PutsAll files files' c.added
  pub there : MayHave files' out

-- Why a commit is not put: memory ran out, the store may fail, or a file stands where one that it adds was to be, or
-- where its metadata was to be, which has a fault of its own.
abbrev pub MayNotPut : Commitment → List ℕ → Option (List File) → Option (List File) → Type 0 → RunFault → Type 0
MayNotPut c out files files' store_may_fail run.Write =
    store_may_fail ⊎ StopsAt files files' store_may_fail c.added store.There
MayNotPut c out files files' store_may_fail (run.Conflict path) = IsTaken c out path files files'
MayNotPut c out files files' store_may_fail run.Memory = Unit {0}
MayNotPut c out files files' store_may_fail fault = ⊥

-- what a request to commit ends with where there is an answer: it was not put, or it was, and telling of it failed
abbrev pub MayNotTell : Commitment → List ℕ → Option (List File) → Option (List File) → Type 0 → Type 0 → Type 0
MayNotTell c out files files' store_may_fail sink_may_fail =
    MayNotPut c out files files' store_may_fail run.Write ⊎ (sink_may_fail × IsPut c out files files')

-- Why a request to commit ends with a fault: memory ran out, a read failed that may fail, the fault is the answer's, or
-- there is an answer that is not put or not told.
abbrev pub MayEndCommit : Result Commitment RunFault → (List ℕ → Type 0) → List ℕ → Option (List File) →
    Option (List File) → Type 0 → Type 0 → RunFault → Type 0
MayEndCommit read may_fail_at out files files' store_may_fail sink_may_fail run.Write =
    (c : Commitment) × (read ≡ Ok c) × MayNotTell c out files files' store_may_fail sink_may_fail
MayEndCommit read may_fail_at out files files' store_may_fail sink_may_fail (run.Conflict path) =
    (c : Commitment) × (read ≡ Ok c) × IsTaken c out path files files'
MayEndCommit read may_fail_at out files files' store_may_fail sink_may_fail fault = MayEnd read may_fail_at ⊥ fault

-- the faults of preparing a commit
abbrev pub IsOfPreparing : RunFault → Type 0
IsOfPreparing (run.Absent path) = Unit {0}
IsOfPreparing (run.Device path) = Unit {0}
IsOfPreparing (run.Change fault) = Unit {0}
IsOfPreparing (run.Metadata fault) = Unit {0}
IsOfPreparing (run.Prepare fault) = Unit {0}
IsOfPreparing run.Memory = Unit {0}
IsOfPreparing _ = ⊥

-- the faults of putting what was prepared
abbrev pub IsOfPutting : RunFault → Type 0
IsOfPutting run.Write = Unit {0}
IsOfPutting (run.Conflict path) = Unit {0}
IsOfPutting run.Memory = Unit {0}
IsOfPutting _ = ⊥

-- the faults of a request to commit
abbrev pub MayRefuseACommit : RunFault → Type 0
MayRefuseACommit run.Write = Unit {0}
MayRefuseACommit (run.Conflict path) = Unit {0}
MayRefuseACommit fault = IsOfPreparing fault

-- why a file is not written: the store may fail, or a file stands there
abbrev pub MayFailToPut : Option (List File) → Type 0 → Type 0
MayFailToPut files' store_may_fail = store_may_fail ⊎ ((path : List ℕ) × MayHave files' path)

-- What a refused commit tells over any files and any store: a file that is called absent is not there, a read failed at
-- a path where it may, where the metadata was to be another file stands, and a write failed that may fail, or found a
-- file.
pub record OnCommitRefusal (world : Option World) (may_fail_at : List ℕ → Type 0) (out : List ℕ)
    (files' : Option (List File)) (store_may_fail sink_may_fail : Type 0) (result : Result Unit RunFault) : Type 0 where
  pub kinds : IfErr result MayRefuseACommit
  pub absent : (path : List ℕ) → IsErrOf result (run.Absent path) → HasAt world path None
  pub device : (path : List ℕ) → IsErrOf result (run.Device path) → may_fail_at path
  pub conflict : (path : List ℕ) → IsErrOf result (run.Conflict path) → (path ≡ out) × MayHave files' out
  pub write : IsErrOf result run.Write → MayFailToPut files' store_may_fail ⊎ sink_may_fail

-- What is told of a commit over any files and any store: its receipt, or after a failed write a front of one.
pub record TellsACommit (id : ℤ) (result : Result Unit RunFault) (output output' : Option (List ℕ)) : Type 0 where
  pub all : OnOk result ((number : ℕ) × Appends output output' (receipt_text id number))
  pub front : IsErrOf result run.Write → (number : ℕ) × AppendsFront output output' (receipt_text id number)

-- ---- what a commit does on a disk

-- Each file that it adds was placed, in their order, and then the metadata that names them.
abbrev pub IsCommitPlaced : Names → Commitment → List ℕ → List Event → Type 0
IsCommitPlaced names c out events =
    (bytes : List ℕ) × IsTextOf c.metadata bytes × ArePlaced names (in_order c.added out bytes) events

-- They were placed up to one that was not, which is the metadata or a file before it.
abbrev pub StopsCommit : Names → Commitment → List ℕ → StoreFault → List Event → Type 0
StopsCommit names c out fault events =
    (bytes : List ℕ) × IsTextOf c.metadata bytes × StopsPlacing names (in_order c.added out bytes) fault events

-- All files but the metadata were placed, and something else has its name.
abbrev pub IsBeaten : Names → Commitment → List ℕ → List Event → Type 0
IsBeaten names c out events =
    (bytes : List ℕ) × IsTextOf c.metadata bytes × (front : List Event) × (last : List Event) ×
    ArePlaced names c.added front × NotPlacedAt names out bytes store.There last × (events ≡ front ++ last)

-- what was done for a commit that is refused
abbrev pub NotCommitted : Names → Commitment → List ℕ → RunFault → List Event → Type 0
NotCommitted names c out (run.Conflict path) events = IsBeaten names c out events
NotCommitted names c out run.Write events = (fault : StoreFault) × StopsCommit names c out fault events
NotCommitted names c out run.Memory events = (events ≡ []) ⊎ StopsCommit names c out store.Memory events
NotCommitted names c out fault events = ⊥

-- ---- the text of a commit in a bundle

-- The text of a commit in a bundle, where it is told: the metadata's bytes are, unless a number in it has a fraction.
abbrev pub told_text : List ℕ → Result Commitment RunFault → Option (Result (List ℕ) RunFault)
told_text out (Err fault) = Some (Err fault)
told_text out (Ok c) =
    if has_float c.metadata.json then None
    else Some (Ok (bundle_lines (in_order c.added out (compact_text c.metadata.json))))

unfoldable pub committed_text : CommitRequest → List ℕ → Option (Result (List ℕ) RunFault)
committed_text request input =
    told_text request.out (bundle_of input >>= λ files. commitment (λ path. bytes_at files path) request)
