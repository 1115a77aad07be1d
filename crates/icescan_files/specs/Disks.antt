-- Where a disk has a new file: what it is asked, in which order, and how each call ended.
use Rattle.std.specs.Prelude.{◌≡◌, ◌≢◌, ◌⊎◌, ℕ, ◌<◌, Bool, true, false, List, [], ◌∷◌, ◌++◌, codes, length, slice_index}
use Rattle.std.specs.Prelude.{Contains, Option, Some, None, Result, Ok, Err}
use Rattle.std.specs.List.{AllByRecursion, list_any}
use Rattle.std.specs.IoError.{error_kind}
use Rattle.std.specs.declared.io.Error.{Error}
use Rattle.std.specs.declared.io.ErrorKind.{ErrorKind}
use Rattle.std.specs.declared.io.ErrorKind.TheVariants.{AlreadyExists}
use Rattle.ice_catalog_changes.specs.NewFiles.{Added}
use Rattle.ice_catalog_changes.specs.declared.change.Ids.{Ids}
use Rattle.icescan_files.specs.Folders.{HasNoSync, IsKept, IsNamed, aside_name}
use Rattle.icescan_files.specs.declared.store.StoreFault.{StoreFault}
use Rattle.icescan_files.specs.declared.store.StoreFault.TheVariants as store

-- What a disk is asked: files and folders go by their names.
pub data Call : Type 0 where
  -- a new, empty file, where nothing has the name
  Create : (name : List ℕ) → Call
  -- all of these bytes at the end of the file
  Append : (name bytes : List ℕ) → Call
  -- the file brought to the disk
  SyncFile : (name : List ℕ) → Call
  -- a second name for the file, where nothing has it
  Link : (name place : List ℕ) → Call
  -- whether the file has this name too, with the answer
  Compare : (name place : List ℕ) → (same : Bool) → Call
  -- the name taken away
  Remove : (name : List ℕ) → Call
  -- the names in the folder brought to the disk
  SyncFolder : (folder : List ℕ) → Call

-- a call that went well, or was refused
pub data Event : Type 0 where
  Done : (call : Call) → Event
  Refused : (kind : ErrorKind) → (call : Call) → Event

abbrev pub event_of : {A : Type 0} → Call → Result A Error → Event
event_of call (Ok value) = Done call
event_of call (Err e) = Refused (error_kind e) call

-- where a disk tells its calls, these follow those before
abbrev pub Extends : Option (List Event) → Option (List Event) → (List Event → Type 0) → Type 0
Extends None new P = Unit {0}
Extends (Some old) new P = (more : List Event) × (new ≡ Some (old ++ more)) × P more

-- where a disk tells its calls, this is the next
abbrev pub Tells : Option (List Event) → Option (List Event) → Event → Type 0
Tells None new event = Unit {0}
Tells (Some old) new event = new ≡ Some (old ++ event ∷ [])

-- ---- a new file

-- a name that is tried for a new file, and which something has
abbrev pub IsTaken : Event → Type 0
IsTaken event = (name : List ℕ) × (event ≡ Refused AlreadyExists (Create name))

-- an empty file was made under a name of one's own
pub record IsMade (own : List ℕ → Type 0) (aside : List ℕ) (events : List Event) : Type 0 where
  pub is_own : own aside
  pub tries : List Event
  pub were_taken : AllByRecursion IsTaken tries
  pub in_order : events ≡ tries ++ Done (Create aside) ∷ []

-- all of these bytes are in it, and on the disk
abbrev pub filled : List ℕ → List ℕ → List Event
filled aside bytes = Done (Append aside bytes) ∷ Done (SyncFile aside) ∷ []

-- It got its name. Over a network a link that was made may be asked for once more: then the name is found to be its
-- own.
abbrev pub IsLinked : List ℕ → List ℕ → List Event → Type 0
IsLinked aside name events = (events ≡ Done (Link aside name) ∷ [])
    ⊎ (events ≡ Refused AlreadyExists (Link aside name) ∷ Done (Compare aside name true) ∷ [])

-- it is whole, and then it got its name
abbrev pub IsWholeAt : List ℕ → List ℕ → List ℕ → List Event → Type 0
IsWholeAt aside name bytes events =
    (link : List Event) × IsLinked aside name link × (events ≡ filled aside bytes ++ link)

-- the names in a folder are on the disk, as far as the file system can see to that
abbrev pub IsFolderKept : List ℕ → List Event → Type 0
IsFolderKept folder events =
    (synced : Result (Unit {0}) Error) × IsKept synced × (events ≡ event_of (SyncFolder folder) synced ∷ [])

-- they may not be
abbrev pub IsFolderLost : List ℕ → List Event → Type 0
IsFolderLost folder events =
    (e : Error) × (HasNoSync e → ⊥) × (events ≡ Refused (error_kind e) (SyncFolder folder) ∷ [])

abbrev pub HasNoSlash : List ℕ → Type 0
HasNoSlash name = (i : ℕ) → i < length name → slice_index name i ≢ 47

-- the folder that a name is in: what stands before its last slash
abbrev pub IsFolderOf : List ℕ → List ℕ → Type 0
IsFolderOf name folder = ((last : List ℕ) × HasNoSlash last × (name ≡ folder ++ 47 ∷ last))
    ⊎ (HasNoSlash name × (folder ≡ codes "."))

-- A file was put at a name: it was made under a name of one's own, filled with these bytes and brought to the disk;
-- then it got its name; the name of one's own was taken away, whatever was answered; at last its folder was synced.
pub record IsPutAt (own : List ℕ → Type 0) (name bytes : List ℕ) (IsSynced : List ℕ → List Event → Type 0)
    (events : List Event) : Type 0 where
  pub aside : List ℕ
  pub made : List Event
  pub is_made : IsMade own aside made
  pub whole : List Event
  pub is_whole : IsWholeAt aside name bytes whole
  pub removed : Result (Unit {0}) Error
  pub folder : List ℕ
  pub is_folder : IsFolderOf name folder
  pub sync : List Event
  pub is_synced : IsSynced folder sync
  pub in_order : events ≡ made ++ (whole ++ event_of (Remove aside) removed ∷ sync)

-- it was put, and its name is on the disk too
abbrev pub IsPlaced : (List ℕ → Type 0) → List ℕ → List ℕ → List Event → Type 0
IsPlaced own name bytes events = IsPutAt own name bytes IsFolderKept events

-- a file got a name by this
abbrev pub links : Event → Bool
links (Done (Link name place)) = true
links (Done (Compare name place same)) = same
links event = false

-- no file got a name by these
abbrev pub NothingLinked : List Event → Type 0
NothingLinked events = list_any links events ≡ false

-- the name was refused, since something else has it
abbrev pub IsOccupied : List ℕ → List ℕ → List Event → Type 0
IsOccupied aside name events = Contains events (Refused AlreadyExists (Link aside name))

-- What was done where no file was made.
abbrev pub NotMade : StoreFault → List Event → Type 0
NotMade store.There events = ⊥
NotMade fault events = NothingLinked events

-- What was done for a file that did not get its name: `There` says that something else has it.
abbrev pub NotLinked : List ℕ → List ℕ → StoreFault → List Event → Type 0
NotLinked aside name store.There events = NothingLinked events × IsOccupied aside name events
NotLinked aside name fault events = NothingLinked events

-- What was done for a file that is not placed. It did not get its name; or it did, whole and synced, and then the sync
-- of its folder failed, which is `Failed`.
abbrev pub NotPlaced : (List ℕ → Type 0) → List ℕ → List ℕ → StoreFault → List Event → Type 0
NotPlaced own name bytes store.There events =
    NothingLinked events × ((aside : List ℕ) × own aside × IsOccupied aside name events)
NotPlaced own name bytes store.Failed events = NothingLinked events ⊎ IsPutAt own name bytes IsFolderLost events
NotPlaced own name bytes store.Memory events = NothingLinked events

-- a name of the commit's own for a file that is not whole yet, in the folder that its name is in
abbrev pub IsAsideOf : Ids → List ℕ → List ℕ → Type 0
IsAsideOf ids name aside =
    (folder : List ℕ) × IsFolderOf name folder × ((number : ℕ) × (aside ≡ aside_name folder ids number))

-- ---- the files of a store

-- which name the file of a path has, and which until it is whole
abbrev pub Names : Type 1
Names = List ℕ → List ℕ → List ℕ → Type 0

-- the files of a table below a folder, as a commit puts them
abbrev pub names_below : List ℕ → List ℕ → Ids → Names
names_below folder prefix ids path name aside = IsNamed folder prefix path (Some name) × IsAsideOf ids name aside

-- the file of a path was placed, and no other
abbrev pub IsPlacedAt : Names → List ℕ → List ℕ → List Event → Type 0
IsPlacedAt names path bytes events = (name : List ℕ) × IsPlaced (names path name) name bytes events

abbrev pub NotPlacedAt : Names → List ℕ → List ℕ → StoreFault → List Event → Type 0
NotPlacedAt names path bytes fault events = (name : List ℕ) × NotPlaced (names path name) name bytes fault events

-- these files were placed one after the other, each only when the one before was placed
abbrev pub ArePlaced : Names → Added → List Event → Type 0
ArePlaced names [] events = events ≡ []
ArePlaced names (f ∷ added) events =
    (first : List Event) × (rest : List Event) × IsPlacedAt names f.0 f.1 first × ArePlaced names added rest ×
    (events ≡ first ++ rest)

-- they were, up to one that was not; nothing was done for those after it
abbrev pub StopsPlacing : Names → Added → StoreFault → List Event → Type 0
StopsPlacing names [] fault events = ⊥
StopsPlacing names (f ∷ added) fault events = NotPlacedAt names f.0 f.1 fault events
    ⊎ ((first : List Event) × (rest : List Event) × IsPlacedAt names f.0 f.1 first ×
    StopsPlacing names added fault rest × (events ≡ first ++ rest))
