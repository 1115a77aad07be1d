-- What calls do to what handles hold.
use Rattle.std.specs.Prelude.{◌≡◌, ◌⊎◌, ℕ, ◌+◌, ◌*◌, ◌^◌, ℤ, List, Option, Some, None, Result, Ok, Err, slice_get}
use Rattle.std.specs.Int.{w128, to_be_bytes}
use Rattle.ice_catalog_changes.specs.declared.change.Ids.{Ids}
use Rattle.icescan_text.specs.declared.request.Request.{Request}
use Rattle.icescan_text.specs.declared.fault.RunFault.{RunFault}
use Rattle.icescan_c.specs.Kept.{Kept}
use Rattle.ice_manifest_reading.specs.declared.row.Row.{Row}
use Rattle.icescan_audit.specs.Handed.{Handed}
use Rattle.icescan_c.specs.Making.{CommitsTo, Holds, Makes, finished, handing, opening, started, telling_audit}
use Rattle.icescan_c.specs.Making.{telling_explanation}
use Rattle.icescan_c_commits.specs.Handed.{took}
use Rattle.icescan_c_commits.specs.declared.handed.HandedCommit.{HandedCommit}
use Rattle.icescan_c_explanations.specs.Handed.{took as took_to_explain}
use Rattle.icescan_c_explanations.specs.declared.handed.HandedExplanation.{HandedExplanation}
use Rattle.icescan_c_requests.specs.Handed.{next_of}
use Rattle.icescan_c_requests.specs.Requests.{ReadsTexts}
use Rattle.icescan_c_requests.specs.Texts.{IsJsonOfAsked}
use Rattle.icescan_c.specs.States.{TakesOver, TakesRow, untaken}
use Rattle.icescan_c_requests.specs.Statuses.{status_of}
use Rattle.icescan_c.specs.declared.held.Held.{Held}
use Rattle.icescan_c.specs.declared.held.Held.TheVariants as held
use Rattle.icescan_c.specs.declared.states.ScanPlan.{ScanPlan}
use Rattle.icescan_c_requests.specs.declared.endings.Refusal.{Refusal}
use Rattle.icescan_c_requests.specs.declared.endings.Refusal.TheVariants as refusal

-- A call works so on what a handle holds. A handle that holds nothing is refused.
abbrev pub OnHandle : (Held → Result Unit Refusal → Held → Type 0) → Option Held → ℕ → Option Held → Type 0
OnHandle works None status after = (status ≡ status_of (Err refusal.Kind)) × (after ≡ None)
OnHandle works (Some before) status after = (ended : Result Unit Refusal) × (kept : Held) × (status ≡ status_of ended)
    × (after ≡ Some kept) × works before ended kept

-- the call is refused so, and what was held stays
abbrev pub Refuses : {X : Type 0} → Refusal → X → Result Unit Refusal → X → Type 0
Refuses refused before ended after = (ended ≡ Err refused) × (after ≡ before)

-- a handle comes to hold this; without memory for it what was held stays
abbrev pub ComesToHold : Held → Option Held → Result Unit Refusal → Option Held → Type 0
ComesToHold made before (Ok x) after = after ≡ Some made
ComesToHold made before ended after = Refuses refusal.Memory before ended after

-- a handle comes to hold what is made, or the line of its fault; without memory for it what was held stays
abbrev pub Becomes : Result Held RunFault → Option Held → Result Unit Refusal → Option Held → Type 0
Becomes made before ended after = Refuses refusal.Memory before ended after
    ⊎ ((kept : Held) × (after ≡ Some kept) × Makes made ended kept)

-- ---- scans

-- what is made of a request, which is refused where it could not be read
abbrev pub Asks : (Request → Result Held RunFault) → Result Request Refusal → Option Held → Result Unit Refusal
    → Option Held → Type 0
Asks made (Ok request) before ended after = Becomes (made request) before ended after
Asks made (Err refused) before ended after = Refuses refused before ended after

-- the same of a request that is read of these texts
abbrev pub Selects : (Request → Result Held RunFault) → List (List ℕ) → Request → Option Held → ℕ → Option Held → Type 0
Selects made texts request before status after = (read : Result Request Refusal) × (ended : Result Unit Refusal)
    × ReadsTexts texts request read × (status ≡ status_of ended) × Asks made read before ended after

-- what was selected becomes the scan of a manifest list, and a snapshot to be audited its audit
abbrev pub Starts : List ℕ → Held → Result Unit Refusal → Held → Type 0
Starts list (held.Selection answer) ended after = Makes (started answer list) ended after
Starts list (held.Subject subject) ended after = Makes (opening subject list) ended after
Starts list other ended after = Refuses refusal.Kind other ended after

-- ---- states

-- a handle comes to hold the state of a scan in which no row is taken
abbrev pub Begins : Held → Option Held → Result Unit Refusal → Option Held → Type 0
Begins (held.Scan scan) before ended after = ComesToHold (held.State (untaken scan)) before ended after
Begins other before ended after = Refuses refusal.Kind before ended after

-- what a handle comes to hold of what another one holds
abbrev pub OfOther : (Held → Option Held → Result Unit Refusal → Option Held → Type 0) → Option Held → Option Held → ℕ
    → Option Held → Type 0
OfOther works None before status after = (status ≡ status_of (Err refusal.Kind)) × (after ≡ before)
OfOther works (Some other) before status after = (ended : Result Unit Refusal) × (status ≡ status_of ended)
    × works other before ended after

abbrev pub IsStateAfter : (Kept → Type 0) → Held → Type 0
IsStateAfter is (held.State kept) = is kept
IsStateAfter is other = ⊥

-- a state takes the row i
abbrev pub Takes : ℕ → List ℕ → Held → Result Unit Refusal → Held → Type 0
Takes i manifest (held.State before) ended after = IsStateAfter (TakesRow before i manifest ended) after
Takes i manifest other ended after = Refuses refusal.Kind other ended after

-- a state takes over what another took
abbrev pub Merges : Held → Held → Result Unit Refusal → Held → Type 0
Merges (held.State other) (held.State before) ended after = IsStateAfter (TakesOver before other ended) after
Merges other before ended after = Refuses refusal.Kind before ended after

abbrev pub MergesOf : Option Held → Option Held → ℕ → Option Held → Type 0
MergesOf None before status after = (status ≡ status_of (Err refusal.Kind)) × (after ≡ before)
MergesOf (Some other) before status after = OnHandle (Merges other) before status after

-- an audit takes the manifest of the next row
abbrev pub HandsNext : Option Row → List ℕ → Handed → Result Unit Refusal → Held → Type 0
HandsNext None manifest audit ended after = Refuses refusal.PastEnd (held.Audit audit) ended after
HandsNext (Some row) manifest audit ended after = Makes (handing audit manifest) ended after

abbrev pub Hands : List ℕ → Held → Result Unit Refusal → Held → Type 0
Hands manifest (held.Audit audit) ended after =
    HandsNext (slice_get audit.rows audit.read.manifests) manifest audit ended after
Hands manifest other ended after = Refuses refusal.Kind other ended after

-- ---- commits

-- the names that a commit takes, its uuid as two halves, and its time
unfoldable pub ids_of : ℤ → ℕ → ℕ → ℤ → Ids
ids_of snapshot high low now_ms =
    record { snapshot = snapshot; uuid = to_be_bytes w128 (high * 2 ^ 64 + low); now_ms = now_ms }

-- a handle comes to hold what is made of them
abbrev pub Asked : Result Held RunFault → Option Held → ℕ → Option Held → Type 0
Asked made before status after = (ended : Result Unit Refusal) × (status ≡ status_of ended)
    × Becomes made before ended after

-- a commit takes the next file of its table
abbrev pub HandsNextFile : Option (List ℕ) → List ℕ → HandedCommit → Result Unit Refusal → Held → Type 0
HandsNextFile None bytes commit ended after = Refuses refusal.PastEnd (held.Change commit) ended after
HandsNextFile (Some path) bytes commit ended after = Makes (Ok (held.Change (took commit bytes))) ended after

-- an explanation takes it
abbrev pub ExplainsNextFile : Option (List ℕ) → List ℕ → HandedExplanation → Result Unit Refusal → Held → Type 0
ExplainsNextFile None bytes explanation ended after = Refuses refusal.PastEnd (held.Explanation explanation) ended after
ExplainsNextFile (Some path) bytes explanation ended after =
    Makes (Ok (held.Explanation (took_to_explain explanation bytes))) ended after

abbrev pub HandsFile : List ℕ → Held → Result Unit Refusal → Held → Type 0
HandsFile bytes (held.Change commit) ended after =
    HandsNextFile (next_of commit.files) bytes commit ended after
HandsFile bytes (held.Explanation explanation) ended after =
    ExplainsNextFile (next_of explanation.files) bytes explanation ended after
HandsFile bytes other ended after = Refuses refusal.Kind other ended after

-- ---- what they come to

-- a state becomes the plan of what it took, an audit what it found, a commit is prepared, and a plan explained
abbrev pub Finishes : Held → Result Unit Refusal → Held → Type 0
Finishes (held.State kept) ended after = Makes (finished kept) ended after
Finishes (held.Audit audit) ended after = Makes (telling_audit audit) ended after
Finishes (held.Change commit) ended after =
    (made : Result Held RunFault) × CommitsTo commit made × Holds made ended after
Finishes (held.Explanation explanation) ended after = Makes (telling_explanation explanation) ended after
Finishes other ended after = Refuses refusal.Kind other ended after

-- ---- plans

-- a plan's JSON, with the filter that was asked
abbrev pub IsJsonOfScan : ScanPlan → List ℕ → Type 0
IsJsonOfScan plan = IsJsonOfAsked plan.scan.question.metadata plan.scan.question.request plan.types plan.plan

-- a handle comes to hold it; without memory for it what was held stays
abbrev pub TellsJson : Held → Option Held → Result Unit Refusal → Option Held → Type 0
TellsJson (held.Plan plan) before (Ok x) after =
    (text : List ℕ) × IsJsonOfScan plan text × (after ≡ Some (held.Text text))
TellsJson (held.Plan plan) before ended after = Refuses refusal.Memory before ended after
TellsJson other before ended after = Refuses refusal.Kind before ended after
