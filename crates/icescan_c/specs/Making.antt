-- What is made of the bytes that C hands in.
use Rattle.std.specs.Prelude.{◌≡◌, ◌⊎◌, ℕ, List, [], map, Result, Ok, Err}
use Rattle.contract_words.specs.Outcome.{Gives, ◌>>=◌}
use Rattle.ice_manifest_reading.specs.Lists.{rows_of}
use Rattle.icescan_audit.specs.Handed.{Handed, opened, told_in, took}
use Rattle.icescan_audit.specs.Subjects.{subject_of}
use Rattle.icescan_audit.specs.declared.subject.Subject.{Subject}
use Rattle.ice_catalog_changes.specs.declared.change.Ids.{Ids}
use Rattle.icescan_c_commits.specs.Handed.{Commits}
use Rattle.icescan_c_commits.specs.Handed.{asked as commit_asked}
use Rattle.icescan_c_commits.specs.declared.handed.HandedCommit.{HandedCommit}
use Rattle.icescan_c_explanations.specs.Handed.{asked as explanation_asked}
use Rattle.icescan_c_explanations.specs.Handed.{told_in as explanation_told_in}
use Rattle.icescan_c_explanations.specs.declared.handed.HandedExplanation.{HandedExplanation}
use Rattle.icescan_columns.specs.Columns.{columns_of}
use Rattle.icescan_forms.specs.declared.format.Format.TheVariants as format
use Rattle.icescan_json.specs.Types.{spec_types}
use Rattle.icescan_relaxed.specs.Requests.{relaxed_request}
use Rattle.icescan_requests.specs.Selections.{selected}
use Rattle.ice_state.specs.Outcomes.{outcome}
use Rattle.ice_state.specs.Scans.{scan_of}
use Rattle.icescan_text.specs.FaultTexts.{fault_text}
use Rattle.icescan_text.specs.Faults.{of_finish, of_list, of_scan}
use Rattle.icescan_text.specs.Faults.{status_of as fault_status}
use Rattle.icescan_text.specs.Reads.{as_run}
use Rattle.icescan_text.specs.declared.fault.RunFault.{RunFault}
use Rattle.icescan_text.specs.declared.fault.RunFault.TheVariants as run
use Rattle.icescan_text.specs.declared.request.Request.{Request}
use Rattle.icescan_c.specs.Kept.{Answered, AskedScan, Kept}
use Rattle.icescan_c.specs.declared.held.FaultTexts.{FaultTexts}
use Rattle.icescan_c.specs.declared.held.Held.{Held}
use Rattle.icescan_c.specs.declared.held.Held.TheVariants as held
use Rattle.icescan_c.specs.declared.states.ScanPlan.{ScanPlan}
use Rattle.icescan_c.specs.declared.working.Making.{Making}
use Rattle.icescan_c.specs.declared.working.Making.TheVariants as making
use Rattle.icescan_c_requests.specs.Hints.{IsHint}
use Rattle.icescan_c_requests.specs.declared.endings.Refusal.{Refusal}
use Rattle.icescan_c_requests.specs.declared.endings.Refusal.TheVariants as refusal

-- what a request selects of the table whose metadata these are the bytes of
unfoldable pub answered : List ℕ → Request → Result Answered RunFault
answered metadata request = do
  selection ← selected metadata request
  Ok (record { question = record { metadata = metadata; request = request }; selection = selection })

unfoldable pub asked : List ℕ → Request → Result Held RunFault
asked metadata request = do
  answer ← answered metadata request
  Ok (held.Selection answer)

-- the request whose filter is relaxed, of that table
unfoldable pub relaxing : List ℕ → Request → Result Held RunFault
relaxing metadata request = do
  made ← relaxed_request metadata request
  Ok (held.Relaxed made)

-- the columns that a filter of the request's snapshot names, and the partition specs, as lines of JSON
unfoldable pub telling_columns : List ℕ → Request → Result Held RunFault
telling_columns metadata request = do
  text ← columns_of format.Json metadata request.target
  Ok (held.Text text)

-- the request's snapshot, to be audited
unfoldable pub auditing : List ℕ → Request → Result Held RunFault
auditing metadata request = do
  subject ← subject_of metadata request.target
  Ok (held.Subject subject)

-- the request's plan, to be explained
unfoldable pub explaining : List ℕ → Request → Result Held RunFault
explaining metadata request = do
  explanation ← explanation_asked metadata request
  Ok (held.Explanation explanation)

abbrev pub made : Making → List ℕ → Request → Result Held RunFault
made making.Scan metadata request = asked metadata request
made making.Relaxed metadata request = relaxing metadata request
made making.Columns metadata request = telling_columns metadata request
made making.Audit metadata request = auditing metadata request
made making.Explanation metadata request = explaining metadata request

-- the scan of what was selected, whose manifest list these are the bytes of
unfoldable pub scanned : Answered → List ℕ → Result AskedScan RunFault
scanned answer list = do
  rows ← as_run of_list (rows_of list)
  scan ← as_run of_scan (scan_of rows answer.selection.specs answer.selection.filter.parts)
  Ok (record { question = answer.question; scan = scan })

unfoldable pub started : Answered → List ℕ → Result Held RunFault
started answer list = do
  scan ← scanned answer list
  Ok (held.Scan scan)

-- the plan of what a state took, beside its scan and the types of its partition values
unfoldable pub planned : Kept → Result ScanPlan RunFault
planned kept = do
  plan ← as_run of_finish (outcome kept.scan kept.content)
  Ok (record {
    scan = record { question = kept.question; scan = kept.scan };
    types = map spec_types kept.scan.specs;
    plan = plan;
  })

unfoldable pub finished : Kept → Result Held RunFault
finished kept = do
  plan ← planned kept
  Ok (held.Plan plan)

-- the audit of a snapshot by the bytes of its manifest list, with the manifest of the next row, and what it found
unfoldable pub opening : Subject → List ℕ → Result Held RunFault
opening subject list = do
  audit ← opened subject list
  Ok (held.Audit audit)

unfoldable pub handing : Handed → List ℕ → Result Held RunFault
handing audit manifest = do
  more ← took audit manifest
  Ok (held.Audit more)

unfoldable pub telling_audit : Handed → Result Held RunFault
telling_audit audit = do
  text ← told_in audit
  Ok (held.Text text)

-- a commit of the change that a text says, and what it writes, prepared on what was handed in
unfoldable pub changing : List ℕ → List ℕ → Ids → Result Held RunFault
changing metadata change ids = do
  commit ← commit_asked metadata change ids
  Ok (held.Change commit)

abbrev pub IsCommitOf : HandedCommit → Held → Type 0
IsCommitOf commit (held.Commit files) = Commits commit (Ok files)
IsCommitOf commit other = ⊥

abbrev pub CommitsTo : HandedCommit → Result Held RunFault → Type 0
CommitsTo commit (Ok held) = IsCommitOf commit held
CommitsTo commit (Err fault) = Commits commit (Err fault)

-- what became of a plan's manifests and files, on what was handed in
unfoldable pub telling_explanation : HandedExplanation → Result Held RunFault
telling_explanation explanation = do
  text ← explanation_told_in explanation
  Ok (held.Text text)

-- the line of a fault is held, or no bytes where memory ran out for it; and a hint
abbrev pub AreTextsOf : RunFault → FaultTexts → Type 0
AreTextsOf fault texts = ((texts.line ≡ fault_text fault) ⊎ (texts.line ≡ [])) × IsHint texts.hint

abbrev pub HoldsFault : RunFault → Held → Type 0
HoldsFault fault (held.Fault texts) = AreTextsOf fault texts
HoldsFault fault other = ⊥

-- what was made is held, or the texts of the fault, with whose status the call ends
abbrev pub Holds : Result Held RunFault → Result Unit Refusal → Held → Type 0
Holds (Ok made) ended after = (ended ≡ Ok tt) × (after ≡ made)
Holds (Err fault) ended after = (ended ≡ Err (refusal.Fault (fault_status fault))) × HoldsFault fault after

-- that is held which reading gives, unless memory ran out
abbrev pub Makes : Result Held RunFault → Result Unit Refusal → Held → Type 0
Makes read ended after = (made : Result Held RunFault) × Gives run.Memory (λ held. held) made read
    × Holds made ended after
