-- Shares, states and plans of bytes that reads gave: also of files that change from one read to the next.
use Rattle.std.specs.Prelude.{◌≡◌, ℕ, Bool, true, false, List, [], ◌∷◌, slice_index_or, Option, Some, Ok}
use Rattle.ice_desk.specs.Given.{Giving, IsGiven}
use Rattle.ice_filter.specs.declared.bound.BoundPredicate.{BoundPredicate}
use Rattle.ice_filter.specs.declared.parts.Part.{Part}
use Rattle.ice_manifest_reading.specs.declared.row.Row.{Row}
use Rattle.ice_meta.specs.declared.spec.Spec.{Spec}
use Rattle.ice_state.specs.Contents.{Content, IsOf, is_row_taken}
use Rattle.ice_state.specs.Joins.{join}
use Rattle.ice_state.specs.Lines.{OwnedLine}
use Rattle.ice_state.specs.Outcomes.{outcome}
use Rattle.ice_state.specs.Scans.{Scanned, scan_of}
use Rattle.ice_state_bytes.specs.States.{nothing, state_at}
use Rattle.icescan_print.specs.Written.{Appends}
use Rattle.icescan_requests.specs.GivenPlans.{WrotePlanThat}
use Rattle.icescan_requests.specs.Selections.{selected}
use Rattle.icescan_requests.specs.declared.selection.Selection.{Selection}
use Rattle.ice_manifest_reading.specs.Lists.{rows_of}
use Rattle.icescan_text.specs.declared.request.Request.{Request}
use Rattle.icescan_text.specs.declared.share.Share.{Share}
use Rattle.icescan_shares.specs.Names.{scan_name}
use Rattle.icescan_shares.specs.Shares.{are_in_share}

-- the scan of the rows of a manifest list with these bytes
abbrev pub IsScanOfList : List ℕ → List Spec → List (Part BoundPredicate) → Scanned → Type 0
IsScanOfList list specs parts scan =
    (rows : List Row) × (rows_of list ≡ Ok rows) × (scan_of rows specs parts ≡ Ok scan)

-- The scan that a request asks for of the table with this metadata, and its name: a read of the manifest list gave it.
pub record IsScanOfGiven (gives : Giving) (metadata : List ℕ) (request : Request) (name : List ℕ) (scan : Scanned)
    : Type 0 where
  pub selection : Selection
  pub asked : selected metadata request ≡ Ok selection
  pub list : List ℕ
  pub read : gives selection.list (Some list)
  pub scan_is : IsScanOfList list selection.specs selection.filter.parts scan
  pub name_is : name ≡ scan_name metadata list request

-- each of the rows that are marked was taken
abbrev pub AreTaken : List Bool → Content → Type 0
AreTaken marks content = (i : ℕ) → slice_index_or marks i false ≡ true → is_row_taken content i ≡ true

-- The bytes of a share's state: each manifest of the share was read from bytes that a read of its path gave.
pub record IsShareOfGiven (gives : Giving) (metadata : List ℕ) (request : Request) (share : Share) (bytes : List ℕ)
    : Type 0 where
  pub name : List ℕ
  pub scan : Scanned
  pub of_request : IsScanOfGiven gives metadata request name scan
  pub content : Content
  pub of_scan : IsOf scan content
  pub whole : AreTaken (are_in_share share scan.wanted) content
  pub given : IsGiven gives scan content
  pub is : state_at scan name bytes ≡ Ok content

-- the bytes of such a state were written, of metadata that a read of the path gave
abbrev pub WroteShare : Giving → List ℕ → Request → Share → Option (List ℕ) → Option (List ℕ) → Type 0
WroteShare gives path request share output output' = (metadata : List ℕ) × gives path (Some metadata)
    × (bytes : List ℕ) × IsShareOfGiven gives metadata request share bytes × Appends output output' bytes

-- ---- the plan of states

-- the state at a path, by bytes that a read gave
abbrev pub IsStateGiven : Giving → Scanned → List ℕ → List ℕ → Content → Type 0
IsStateGiven kept scan name path content =
    (bytes : List ℕ) × kept path (Some bytes) × (state_at scan name bytes ≡ Ok content)

-- the second content is the first and what the states at these paths have, by bytes that reads gave
abbrev pub AreStatesGiven : Giving → Scanned → List ℕ → List (List ℕ) → Content → Content → Type 0
AreStatesGiven kept scan name [] before after = after ≡ before
AreStatesGiven kept scan name (path ∷ paths) before after = (content : Content)
    × IsStateGiven kept scan name path content × AreStatesGiven kept scan name paths (join before content) after

-- The plan of the states at these paths, of the scan that a request asks for.
pub record IsPlanOfStates (gives kept : Giving) (metadata : List ℕ) (request : Request) (paths : List (List ℕ))
    (plan : List OwnedLine) : Type 0 where
  pub name : List ℕ
  pub scan : Scanned
  pub of_request : IsScanOfGiven gives metadata request name scan
  pub content : Content
  pub of_states : AreStatesGiven kept scan name paths (nothing scan) content
  pub is : outcome scan content ≡ Ok plan

-- the text of such a plan was written, of metadata that a read of the path gave
abbrev pub WrotePlanOfStates : Giving → Giving → List ℕ → Request → List (List ℕ) → Option (List ℕ)
    → Option (List ℕ) → Type 0
WrotePlanOfStates gives kept path request paths output output' = (metadata : List ℕ) × gives path (Some metadata)
    × WrotePlanThat (IsPlanOfStates gives kept metadata request paths) output output'

-- ---- states as one

-- what states have together
abbrev pub join_all : List Content → Content
join_all [] = []
join_all (content ∷ contents) = join content (join_all contents)

-- the bytes of states are read as these contents
abbrev pub AreRead : Scanned → List ℕ → List (List ℕ) → List Content → Type 0
AreRead scan name [] [] = Unit {0}
AreRead scan name [] (content ∷ contents) = ⊥
AreRead scan name (bytes ∷ texts) [] = ⊥
AreRead scan name (bytes ∷ texts) (content ∷ contents) =
    (state_at scan name bytes ≡ Ok content) × AreRead scan name texts contents

-- the bytes are those of the states together, whatever scan reads each of them
abbrev pub AreJoined : List (List ℕ) → List ℕ → Type 0
AreJoined texts bytes = (scan : Scanned) (name : List ℕ) (contents : List Content)
    → AreRead scan name texts contents → state_at scan name bytes ≡ Ok (join_all contents)

-- reads gave these bytes at the paths
abbrev pub AreGivenAt : Giving → List (List ℕ) → List (List ℕ) → Type 0
AreGivenAt kept [] [] = Unit {0}
AreGivenAt kept [] (bytes ∷ texts) = ⊥
AreGivenAt kept (path ∷ paths) [] = ⊥
AreGivenAt kept (path ∷ paths) (bytes ∷ texts) = kept path (Some bytes) × AreGivenAt kept paths texts

-- the bytes are those of the states at the paths together, by bytes that reads gave
abbrev pub IsJoinOfGiven : Giving → List (List ℕ) → List ℕ → Type 0
IsJoinOfGiven kept paths bytes = (texts : List (List ℕ)) × AreGivenAt kept paths texts × AreJoined texts bytes

-- such bytes were written
abbrev pub WroteJoin : Giving → List (List ℕ) → Option (List ℕ) → Option (List ℕ) → Type 0
WroteJoin kept paths output output' = (bytes : List ℕ) × IsJoinOfGiven kept paths bytes × Appends output output' bytes
