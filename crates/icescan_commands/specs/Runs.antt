-- The whole program: what it makes of its words and of standard input.
use Rattle.std.specs.Prelude.{◌≡◌, ◌≢◌, ◌⊎◌, ◌==◌, ℕ, List, length, Option, Some, None, IfSome, Result, Ok, Err, OnOk}
use Rattle.std.specs.Prelude.{IfOk, IfErr, IsErrOf, if◌then◌else◌, Bool, true, false, [], ◌∷◌, codes, option_map}
use Rattle.contract_words.specs.Outcome.{◌>>=◌}
use Rattle.icescan_audit_findings.specs.Telling.{faults}
use Rattle.icescan_audit.specs.Audits.{audit_at, audit_reads_at}
use Rattle.icescan_audit.specs.JsonLines.{audit_told}
use Rattle.icescan_audit.specs.declared.audit.Audit.{Audit}
use Rattle.icescan_changes.specs.Answers.{changes_at, changes_reads_at}
use Rattle.icescan_columns.specs.Columns.{columns_at, shown_json_at}
use Rattle.icescan_commands.specs.Answers.{Answer, WroteAnswer, WroteAnswerFront, as_answer, as_json, plain}
use Rattle.icescan_json.specs.JsonAnswers.{typed_answer_at, typed_list_answer}
use Rattle.icescan_commands.specs.Sources.{Below, Failing, MayFailBelow, failing_bundle, failing_over, failing_place}
use Rattle.icescan_commands.specs.Sources.{failing_unread, over, world_at}
use Rattle.icescan_commands.specs.Reading.{GivingBelow, WroteOfGivenBy}
use Rattle.icescan_commands.specs.Storing.{IsStoredBy, IsStoredOfGivenBy, MayFailToPut, Stored}
use Rattle.icescan_explain.specs.Explanations.{explained_at}
use Rattle.icescan_explain.specs.JsonLines.{explanation_told}
use Rattle.icescan_explain.specs.declared.manifests.Explanation.{Explanation}
use Rattle.ice_meta.specs.declared.metadata.Target.{Target}
use Rattle.ice_state.specs.Lines.{OwnedLine}
use Rattle.icescan_files.specs.Bundles.{File, IsInput, bundle_of, bytes_at, first_path}
use Rattle.icescan_drill.specs.Drills.{WroteDrill}
use Rattle.icescan_commits.specs.Commits.{committed_text}
use Rattle.icescan_requests.specs.ListPlans.{list_answer, list_reads}
use Rattle.icescan_requests.specs.Plans.{answer_at, over_wanted_rows, reads_at}
use Rattle.icescan_text.specs.Faults.{status_of}
use Rattle.icescan_text.specs.FaultTexts.{fault_text}
use Rattle.icescan_print.specs.PlanTexts.{plan_text}
use Rattle.icescan_requests.specs.Shows.{shown_at}
use Rattle.icescan_print.specs.Written.{Appends, AppendsFront}
use Rattle.icescan_progress.specs.Hints.{AppendsPlain}
use Rattle.icescan_relaxed.specs.Requests.{relaxed_request_at}
use Rattle.icescan_relaxed.specs.declared.requests.RelaxedRequest.{RelaxedRequest}
use Rattle.ice_state.specs.Contents.{World}
use Rattle.icescan_words.specs.CommandLines.{ReadAs}
use Rattle.icescan_forms.specs.declared.format.Format.{Format}
use Rattle.icescan_forms.specs.declared.format.Format.TheVariants as format
use Rattle.icescan_words.specs.declared.command.Lists.{Lists}
use Rattle.icescan_words.specs.declared.command.Lists.TheVariants as lists
use Rattle.icescan_words.specs.declared.command.Relaxed.{Relaxed}
use Rattle.icescan_words.specs.declared.command.Relaxed.TheVariants as relaxed
use Rattle.icescan_words.specs.declared.command.Source.{Source}
use Rattle.icescan_words.specs.declared.command.Source.TheVariants as source
use Rattle.icescan_words.specs.declared.command.Command.{Command}
use Rattle.icescan_words.specs.declared.command.Command.TheVariants as command
use Rattle.icescan_text.specs.declared.fault.RunFault.{RunFault}
use Rattle.icescan_text.specs.declared.fault.RunFault.TheVariants as run
use Rattle.icescan_text.specs.declared.request.ChangesRequest.{ChangesRequest}
use Rattle.icescan_text.specs.declared.request.CommitRequest.{CommitRequest}
use Rattle.icescan_text.specs.declared.request.Request.{Request}

-- the list is the bundle's first file
abbrev pub or_first_line : Option (List ℕ) → Result (List ℕ) RunFault
or_first_line None = Err (run.Bundle 1)
or_first_line (Some path) = Ok path

-- the path of the list: the one that is asked for
abbrev pub list_in : List File → Option (List ℕ) → Result (List ℕ) RunFault
list_in files (Some list) = Ok list
list_in files None = or_first_line (first_path files)

-- a plan as a text
abbrev pub as_text : Result (List OwnedLine) RunFault → Result (List ℕ) RunFault
as_text (Ok plan) = Ok (plan_text plan)
as_text (Err fault) = Err fault

-- the plan of the list at a path, in a form
abbrev pub list_plan_in : Format → World → List ℕ → Result Answer RunFault
list_plan_in format.Text world list = as_answer (as_text (list_answer world list))
list_plan_in format.Json world list = as_json (typed_list_answer world list)

-- the plan of a list, in a form: of a bundle that of the list that is asked for or of its first file, or the first
-- fault of the bundle; of a folder that of the list at a path
abbrev pub list_planned : Below → Lists → Format → List ℕ → Option (Result Answer RunFault)
list_planned below (lists.Bundle list) form input = Some (bundle_of input >>= λ files.
    list_in files list >>= λ path. list_plan_in form (λ path. bytes_at files path) path)
list_planned below (lists.Folder place list) form input =
    option_map (λ world. list_plan_in form world list) (world_at below place)

-- the plan that is asked of the table whose metadata is at a path, by so many workers, in a form
abbrev pub plan_in : Format → World → List ℕ → Request → ℕ → Result Answer RunFault
plan_in format.Text world path request workers =
    as_answer (as_text (answer_at over_wanted_rows world path request workers))
plan_in format.Json world path request workers = as_json (typed_answer_at over_wanted_rows world path request workers)

-- an audit, and an explanation, in a form
abbrev pub as_audit : Format → Result Audit RunFault → Result (List ℕ) RunFault
as_audit form (Ok audit) = Ok (audit_told form audit)
as_audit form (Err fault) = Err fault

abbrev pub as_explanation : Format → Result Explanation RunFault → Result (List ℕ) RunFault
as_explanation form (Ok x) = Ok (explanation_told form x)
as_explanation form (Err fault) = Err fault

-- in a form: what the metadata at a path says, the columns that a filter names, an audit, and an explained plan
abbrev pub show_in : Format → World → List ℕ → Result Answer RunFault
show_in format.Text world path = as_answer (shown_at world path)
show_in format.Json world path = as_answer (shown_json_at world path)

abbrev pub columns_told : Format → World → List ℕ → Target → Result Answer RunFault
columns_told form world path target = as_answer (columns_at form world path target)

abbrev pub audit_in : Format → World → List ℕ → Target → ℕ → Result Answer RunFault
audit_in form world path target workers = as_answer (as_audit form (audit_at world path target workers))

abbrev pub explain_in : Format → World → List ℕ → Request → ℕ → Result Answer RunFault
explain_in form world path request workers = as_answer (as_explanation form (explained_at world path request workers))

-- the plan that is asked for, or that plan explained; and the same under the relaxed filter of the request
abbrev pub asked_in : Relaxed → Format → World → List ℕ → Request → ℕ → Result Answer RunFault
asked_in relaxed.Plan form world path request workers = plan_in form world path request workers
asked_in relaxed.Explanation form world path request workers = explain_in form world path request workers

abbrev pub relaxed_in : Relaxed → Format → World → List ℕ → Request → ℕ → Result Answer RunFault
relaxed_in what form world path request workers =
    relaxed_request_at world path request >>= λ made. asked_in what form world path made.request workers

-- the paths that it reads: the metadata is read by itself first, to relax the filter
abbrev pub reads_of_made : World → List ℕ → Result RelaxedRequest RunFault → List (List ℕ)
reads_of_made world path (Ok made) = path ∷ reads_at world path made.request
reads_of_made world path (Err fault) = path ∷ []

abbrev pub relaxed_reads_at : World → List ℕ → Request → List (List ℕ)
relaxed_reads_at world path request = reads_of_made world path (relaxed_request_at world path request)

-- the changes that are asked for, in a form
abbrev pub changes_in : Format → World → List ℕ → ChangesRequest → ℕ → Result Answer RunFault
changes_in form world path request workers = as_answer (changes_at form world path request workers)

-- the text of a commit to a table in a bundle, where it is told; of a commit to a folder `commitment` says more
abbrev pub commit_told : Source → CommitRequest → List ℕ → Option (Result Answer RunFault)
commit_told source.Bundle request input = option_map as_answer (committed_text request input)
commit_told (source.Folder place) request input = None

-- What a command asks for, or the first fault, where its files are known: those of a bundle are what standard input
-- had, those of a folder what the folder reports.
abbrev pub answer_to : Below → Command → List ℕ → Option (Result Answer RunFault)
answer_to below (command.ListPlan lists form) input = list_planned below lists form input
answer_to below (command.Plan source request form workers path) input =
    over below source (λ world. plan_in form world path request workers) input
answer_to below (command.Commit source request) input = commit_told source request input
answer_to below (command.Show source form path) input = over below source (λ world. show_in form world path) input
answer_to below (command.Columns source target form path) input =
    over below source (λ world. columns_told form world path target) input
answer_to below (command.Audit source target form workers path) input =
    over below source (λ world. audit_in form world path target workers) input
answer_to below (command.AuditAll source form workers path) input = None
answer_to below (command.Explain source request form workers path) input =
    over below source (λ world. explain_in form world path request workers) input
answer_to below (command.Relaxed what source request form workers path) input =
    over below source (λ world. relaxed_in what form world path request workers) input
answer_to below (command.Changes source request form workers path) input =
    over below source (λ world. changes_in form world path request workers) input
answer_to below (command.Locate folder form) input = None
answer_to below (command.Reachable source part form path) input = None
answer_to below (command.Orphans place older form path) input = None
answer_to below (command.Take source asked share workers path) input = None
answer_to below (command.Join states) input = None
answer_to below (command.Finish source asked states form workers path) input = None
answer_to below (command.Drill asked) input = None
answer_to below (command.Text text) input = Some (Ok (plain text))

-- what may fail of the plan of a list, beside its answer
abbrev pub failing_list : Below → MayFailBelow → Lists → Type 0 → Failing
failing_list below may_fail (lists.Bundle list) write = failing_bundle write
failing_list below may_fail (lists.Folder place list) write =
    failing_place below may_fail place (λ world. list_reads world list) write

-- What may fail of a command, beside its answer: of one over a folder the paths stand here that it reads, in turn.
abbrev pub failing_of : Below → MayFailBelow → Command → Type 0 → Failing
failing_of below may_fail (command.ListPlan lists form) write = failing_list below may_fail lists write
failing_of below may_fail (command.Plan source request form workers path) write =
    failing_over below may_fail source (λ world. reads_at world path request) write
failing_of below may_fail (command.Commit source request) write = failing_bundle write
failing_of below may_fail (command.Show source form path) write =
    failing_over below may_fail source (λ world. path ∷ []) write
failing_of below may_fail (command.Columns source target form path) write =
    failing_over below may_fail source (λ world. path ∷ []) write
failing_of below may_fail (command.Audit source target form workers path) write =
    failing_over below may_fail source (λ world. audit_reads_at world path target) write
failing_of below may_fail (command.AuditAll source form workers path) write = failing_unread write
failing_of below may_fail (command.Explain source request form workers path) write =
    failing_over below may_fail source (λ world. reads_at world path request) write
failing_of below may_fail (command.Relaxed what source request form workers path) write =
    failing_over below may_fail source (λ world. relaxed_reads_at world path request) write
failing_of below may_fail (command.Changes source request form workers path) write =
    failing_over below may_fail source (λ world. changes_reads_at world path request) write
failing_of below may_fail (command.Locate folder form) write = failing_unread write
failing_of below may_fail (command.Reachable source part form path) write = failing_unread write
failing_of below may_fail (command.Orphans place older form path) write = failing_unread write
failing_of below may_fail (command.Take source asked share workers path) write = failing_unread write
failing_of below may_fail (command.Join states) write = failing_unread write
failing_of below may_fail (command.Finish source asked states form workers path) write = failing_unread write
failing_of below may_fail (command.Drill asked) write = failing_unread write
failing_of below may_fail (command.Text text) write = failing_unread write

-- a drill reads nothing; what it wrote is that of a table with all its commits
abbrev pub IsOfDrill : Result Command RunFault → Option (List ℕ) → Option (List ℕ) → Type 0
IsOfDrill (Ok (command.Drill asked)) output output' = WroteDrill asked output output'
IsOfDrill _ output output' = Unit {0}

abbrev pub run_of : Below → Result Command RunFault → List ℕ → Option (Result Answer RunFault)
run_of below (Ok asked) input = answer_to below asked input
run_of below (Err fault) input = Some (Err fault)

abbrev pub failing_run : Below → MayFailBelow → Result Command RunFault → Type 0 → Failing
failing_run below may_fail (Ok asked) write = failing_of below may_fail asked write
failing_run below may_fail (Err fault) write = failing_unread write

-- the number of findings that are faults of which a command tells: an audit of its own, where its files are known; the
-- audits of all snapshots of theirs, as `WroteOfGiven` has it; any other of none
abbrev pub IsCount : Below → Command → List ℕ → ℕ → Type 0
IsCount below (command.Audit source target form workers path) input count =
    IfSome (over below source (λ world. audit_at world path target workers) input)
    (λ (read : Result Audit RunFault). IfOk read (λ (audit : Audit). count ≡ length (faults audit.findings)))
IsCount below (command.AuditAll source form workers path) input count = Unit {0}
IsCount below _ input count = count ≡ 0

abbrev pub IsCountOf : Below → Result Command RunFault → List ℕ → ℕ → Type 0
IsCountOf below (Ok asked) input count = IsCount below asked input count
IsCountOf below (Err fault) input count = count ≡ 0

-- 1 where there are faults
abbrev pub status_of_count : ℕ → ℕ
status_of_count count = if count == 0 then 0 else 1

-- the status that the program ends with that wrote what the words ask for
abbrev pub EndsWith : Below → Result Command RunFault → List ℕ → ℕ → Type 0
EndsWith below asked input status =
    (count : ℕ) × IsCountOf below asked input count × (status ≡ status_of_count count)

-- whether a run ended with a fault, whatever it gives else
abbrev pub ended : {A : Type 0} → Result A RunFault → Result Unit RunFault
ended (Ok x) = Ok tt
ended (Err fault) = Err fault

-- Why the program ends with a fault: memory ran out, standard input, a file or a write failed that may fail, or the
-- fault is that of the words and the files.
abbrev pub MayRefuse : Result Answer RunFault → Failing → RunFault → Type 0
MayRefuse read failing run.Input = failing.input ⊎ (read ≡ Err run.Input)
MayRefuse read failing run.Memory = Unit {0}
MayRefuse read failing run.Write = failing.write
MayRefuse read failing (run.Device path) = failing.read path
MayRefuse read failing fault = read ≡ Err fault

-- What a run gives: the answer is written, or there is a fault, and nothing was written but after a failed write. Where
-- the answer is known, it is that one, and so is the fault.
pub record Ran (known : Option (Result Answer RunFault)) (failing : Failing) (result : Result Unit RunFault)
    (output output' : Option (List ℕ)) : Type 0 where
  pub written : OnOk result (IfSome known (λ read. WroteAnswer read output output'))
  pub refused : IfErr result (λ fault. IfSome known (λ read. MayRefuse read failing fault))
  pub nothing : IfErr result (λ fault. fault ≢ run.Write → output' ≡ output)
  pub front : IsErrOf result run.Write → IfSome known (λ read. WroteAnswerFront read output output')

-- a fault was told: its whole line was written where no write of it may fail, else a front of it
pub record Told (write_may_fail : Type 0) (errors errors' : Option (List ℕ)) (fault : RunFault) : Type 0 where
  pub front : AppendsFront errors errors' (fault_text fault)
  pub all : (write_may_fail → ⊥) → Appends errors errors' (fault_text fault)

-- What a run is given: the files below folders, where they are reported, what reads of them may give, and where reading
-- them may fail; the files that stores below folders have, and where putting one may fail; what standard input has
-- left,
-- where that is known; what its output and its errors took, and whether a write of either may fail.
pub record Given : Type 1 where
  pub below : Below
  pub gives : GivingBelow
  pub read_may_fail : MayFailBelow
  pub stored : Stored
  pub put_may_fail : MayFailToPut
  pub input : Option (List ℕ)
  pub output : Option (List ℕ)
  pub write_may_fail : Type 0
  pub errors : Option (List ℕ)
  pub tell_may_fail : Type 0

-- what it leaves: its status, the files that stores below folders have, and those of the folder that was entered last;
-- what its output and its errors took
pub record Left : Type 0 where
  pub status : ℕ
  pub stored : Stored
  pub files : Option (List File)
  pub output : Option (List ℕ)
  pub errors : Option (List ℕ)

-- the answer of what the words ask for, where it is known
abbrev pub known_of : Given → Result Command RunFault → List ℕ → Option (Result Answer RunFault)
known_of given asked text = run_of given.below asked text

-- why the program ends with a fault, where its answer is known
abbrev pub IsCause : Given → Result Command RunFault → List ℕ → RunFault → Type 0
IsCause given asked text fault = IfSome (known_of given asked text)
    (λ read. MayRefuse read (failing_run given.below given.read_may_fail asked given.write_may_fail) fault)

-- what became of the files of stores
abbrev pub StoredAs : Given → Result Command RunFault → Result Unit RunFault → Left → Type 0
StoredAs given asked result left = IsStoredBy asked given.below given.read_may_fail given.stored given.put_may_fail
    given.write_may_fail result left.stored left.files given.output left.output

-- the same, by what reads gave
abbrev pub StoredOfGivenAs : Given → Result Command RunFault → Result Unit RunFault → Left → Type 0
StoredOfGivenAs given asked result left =
    IsStoredOfGivenBy asked given.gives given.stored result left.files given.output left.output

-- Beside the answer under a relaxed filter, and beside a share and the plan of states, whose filter may be relaxed, a
-- text without control characters was written to the errors, which says what was not asked; beside any other answer
-- nothing.
abbrev pub WroteBeside : Result Command RunFault → Option (List ℕ) → Option (List ℕ) → Type 0
WroteBeside (Ok (command.Relaxed what source request form workers path)) errors errors' = AppendsPlain errors errors'
WroteBeside (Ok (command.Take source asked share workers path)) errors errors' = AppendsPlain errors errors'
WroteBeside (Ok (command.Finish source asked states form workers path)) errors errors' = AppendsPlain errors errors'
WroteBeside _ errors errors' = errors' ≡ errors

-- the program ended without a fault: it wrote the answer to its output, and nothing else
pub record Wrote (given : Given) (asked : Result Command RunFault) (text : List ℕ) (left : Left) : Type 0 where
  pub written : IfSome (known_of given asked text) (λ read. WroteAnswer read given.output left.output)
  pub beside : WroteBeside asked given.errors left.errors
  pub ends : EndsWith given.below asked text left.status
  pub drilled : IsOfDrill asked given.output left.output
  -- whatever folders report
  pub of_given : (count : ℕ) × (left.status ≡ status_of_count count)
      × WroteOfGivenBy given.gives asked count given.output left.output
  pub stored : StoredAs given asked (Ok tt) left
  pub stored_of_given : StoredOfGivenAs given asked (Ok tt) left

-- The program ended with a fault: it told it, and wrote nothing else but after a failed write, and then a front of the
-- answer.
pub record Refused (given : Given) (asked : Result Command RunFault) (text : List ℕ) (left : Left) : Type 0 where
  pub fault : RunFault
  pub cause : IsCause given asked text fault
  pub status_is : left.status ≡ status_of fault
  pub nothing : fault ≢ run.Write → left.output ≡ given.output
  pub front : fault ≡ run.Write
      → IfSome (known_of given asked text) (λ read. WroteAnswerFront read given.output left.output)
  pub stored : StoredAs given asked (Err fault) left
  pub stored_of_given : StoredOfGivenAs given asked (Err fault) left
  pub told : Told given.tell_may_fail given.errors left.errors fault

-- ---- at a terminal

-- no words are read as `--help` where standard input is a terminal
abbrev pub meant : Bool → List (List ℕ) → List (List ℕ)
meant true [] = codes "--help" ∷ []
meant true (word ∷ words) = word ∷ words
meant false words = words

-- texts without control characters were written beside an answer: how its filter is read, and what is to be known of it
pub record Noted (errors errors' : Option (List ℕ)) : Type 0 where
  pub between : Option (List ℕ)
  pub before : AppendsPlain errors between
  pub after : AppendsPlain between errors'

-- a fault was told, and then a text without control characters was written
pub record ToldWithHint (write_may_fail : Type 0) (errors errors' : Option (List ℕ)) (fault : RunFault) : Type 0 where
  pub between : Option (List ℕ)
  pub line : Told write_may_fail errors between fault
  pub hint : AppendsPlain between errors'

-- what is left, but that nothing was written to the errors
abbrev pub silently : Given → Left → Left
silently given left = record {
  status = left.status;
  stored = left.stored;
  files = left.files;
  output = left.output;
  errors = given.errors;
}

-- the program ended without a fault, as in `Wrote`, but that it wrote notes beside the answer
pub record WroteWithNotes (given : Given) (asked : Result Command RunFault) (text : List ℕ) (left : Left) : Type 0 where
  pub wrote : Wrote given asked text (silently given left)
  pub noted : Noted given.errors left.errors

-- The program ended with a fault, as in `Refused`, and told it with a hint; how a filter is read may stand before.
pub record Explained (given : Given) (asked : Result Command RunFault) (text : List ℕ) (left : Left) : Type 0 where
  pub fault : RunFault
  pub cause : IsCause given asked text fault
  pub status_is : left.status ≡ status_of fault
  pub nothing : fault ≢ run.Write → left.output ≡ given.output
  pub front : fault ≡ run.Write
      → IfSome (known_of given asked text) (λ read. WroteAnswerFront read given.output left.output)
  pub stored : StoredAs given asked (Err fault) left
  pub stored_of_given : StoredOfGivenAs given asked (Err fault) left
  pub before : Option (List ℕ)
  pub note : AppendsPlain given.errors before
  pub told : ToldWithHint given.tell_may_fail before left.errors fault

-- what `run_words` says of a run by its words
abbrev pub RanWithoutHint : Given → List (List ℕ) → Left → Type 0
RanWithoutHint given texts left = (asked : Result Command RunFault) × ReadAs texts asked
    × (text : List ℕ) × IsInput given.input text × (Wrote given asked text left ⊎ Refused given asked text left)

-- What is said of a run as which these words were read: notes may stand beside the answer, and a hint after the line
-- of a fault.
abbrev pub RanAsWithHint : Given → Result Command RunFault → Left → Type 0
RanAsWithHint given asked left = (text : List ℕ) × IsInput given.input text
    × (WroteWithNotes given asked text left ⊎ Explained given asked text left)

-- the same of a run by its words
abbrev pub RanWithHint : Given → List (List ℕ) → Left → Type 0
RanWithHint given texts left = (asked : Result Command RunFault) × ReadAs texts asked
    × (text : List ℕ) × IsInput given.input text
    × (WroteWithNotes given asked text left ⊎ Explained given asked text left)
