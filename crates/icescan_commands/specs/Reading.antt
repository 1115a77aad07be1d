-- What a command over a folder wrote, by what reads below the folder gave: also where files change from one read to the
-- next.
use Rattle.std.specs.Prelude.{◌≡◌, ℕ, Bool, true, false, List, Option, Some, Result, Ok, Err}
use Rattle.ice_desk.specs.Given.{Giving}
use Rattle.ice_meta.specs.declared.metadata.Target.{Target}
use Rattle.icescan_audit.specs.JsonLines.{WroteAnAuditAs}
use Rattle.icescan_audit_all.specs.Texts.{WroteAuditsAt}
use Rattle.icescan_changes.specs.Answers.{WroteChangesOfGiven}
use Rattle.icescan_columns.specs.Columns.{columns_of, shown_json_of}
use Rattle.icescan_explain.specs.JsonLines.{WroteAnExplanationAs}
use Rattle.icescan_files.specs.Folders.{named}
use Rattle.icescan_json.specs.Finished.{WroteJsonOfStates}
use Rattle.icescan_json.specs.JsonAnswers.{IsTypedListOfGiven, IsTypedOfGivenAt, WroteJsonThat}
use Rattle.icescan_orphans.specs.Written.{WroteStrays}
use Rattle.icescan_parts.specs.Kept.{WrotePart}
use Rattle.icescan_relaxed.specs.Requests.{relaxed_request}
use Rattle.icescan_relaxed.specs.declared.requests.RelaxedRequest.{RelaxedRequest}
use Rattle.icescan_requests.specs.GivenPlans.{IsListPlanOfGiven, IsPlanOfGivenAt, WrotePlanThat}
use Rattle.icescan_requests.specs.Shows.{WroteText, show_of}
use Rattle.icescan_shares.specs.Given.{WroteJoin, WrotePlanOfStates, WroteShare}
use Rattle.icescan_text.specs.declared.fault.RunFault.{RunFault}
use Rattle.icescan_text.specs.declared.request.ChangesRequest.{ChangesRequest}
use Rattle.icescan_text.specs.declared.request.Request.{Request}
use Rattle.icescan_text.specs.declared.share.Share.{Share}
use Rattle.icescan_forms.specs.declared.format.Format.{Format}
use Rattle.icescan_forms.specs.declared.format.Format.TheVariants as format
use Rattle.icescan_words.specs.declared.command.Asked.{Asked}
use Rattle.icescan_words.specs.declared.command.Command.{Command}
use Rattle.icescan_words.specs.declared.command.Command.TheVariants as command
use Rattle.icescan_words.specs.declared.command.Lists.TheVariants as lists
use Rattle.icescan_words.specs.declared.command.Place.{Place}
use Rattle.icescan_words.specs.declared.command.Relaxed.{Relaxed}
use Rattle.icescan_words.specs.declared.command.Relaxed.TheVariants as relaxed
use Rattle.icescan_words.specs.declared.command.Source.{Source}
use Rattle.icescan_words.specs.declared.command.Source.TheVariants as source

-- what reads of the files below each folder may give, by the prefix that it stands for
abbrev pub GivingBelow : Type 1
GivingBelow = List ℕ → List ℕ → Giving

abbrev pub given_at : GivingBelow → Place → Giving
given_at gives place = gives place.folder place.prefix

-- the files of a source give no more than reads below its folder
abbrev pub AreGivenBelow : GivingBelow → Source → Giving → Type 0
AreGivenBelow below source.Bundle gives = Unit {0}
AreGivenBelow below (source.Folder place) gives =
    (path : List ℕ) (found : Option (List ℕ)) → gives path found → given_at below place path found

-- the plan of a manifest list, in a form
abbrev pub WroteListPlan : Giving → List ℕ → Format → Option (List ℕ) → Option (List ℕ) → Type 0
WroteListPlan gives list format.Text output output' = WrotePlanThat (IsListPlanOfGiven gives list) output output'
WroteListPlan gives list format.Json output output' = WroteJsonThat (IsTypedListOfGiven gives list) output output'

-- the plan that is asked of the table whose metadata is at a path, in a form
abbrev pub WrotePlanAt : Giving → List ℕ → Request → Format → Option (List ℕ) → Option (List ℕ) → Type 0
WrotePlanAt gives path request format.Text output output' =
    WrotePlanThat (IsPlanOfGivenAt gives path request) output output'
WrotePlanAt gives path request format.Json output output' =
    WroteJsonThat (IsTypedOfGivenAt gives path request) output output'

-- what the metadata at a path says, in a form
abbrev pub shown_of : Format → List ℕ → Result (List ℕ) RunFault
shown_of format.Text metadata = show_of metadata
shown_of format.Json metadata = shown_json_of metadata

abbrev pub WroteShown : Format → Giving → List ℕ → Option (List ℕ) → Option (List ℕ) → Type 0
WroteShown form gives path output output' = (metadata : List ℕ) × gives path (Some metadata)
    × WroteText (shown_of form metadata) output output'

-- the columns of the metadata at a path, in a form
abbrev pub WroteColumns : Format → Giving → List ℕ → Target → Option (List ℕ) → Option (List ℕ) → Type 0
WroteColumns form gives path target output output' = (metadata : List ℕ) × gives path (Some metadata)
    × WroteText (columns_of form metadata target) output output'

-- the audit of a snapshot of the table whose metadata is at a path, in a form, with so many faults
abbrev pub WroteAudited : Format → Giving → List ℕ → Target → ℕ → Option (List ℕ) → Option (List ℕ) → Type 0
WroteAudited form gives path target count output output' = (metadata : List ℕ) × gives path (Some metadata)
    × WroteAnAuditAs form gives metadata target count output output'

-- the plan that is asked of the table whose metadata is at a path, explained in a form
abbrev pub WroteExplained : Format → Giving → List ℕ → Request → Option (List ℕ) → Option (List ℕ) → Type 0
WroteExplained form gives path request output output' = (metadata : List ℕ) × gives path (Some metadata)
    × WroteAnExplanationAs form gives metadata request output output'

-- the plan that is asked of the table whose metadata is at a path, or that plan explained, in a form
abbrev pub WroteAsked : Relaxed → Format → Giving → List ℕ → Request → Option (List ℕ) → Option (List ℕ) → Type 0
WroteAsked relaxed.Plan form gives path request output output' = WrotePlanAt gives path request form output output'
WroteAsked relaxed.Explanation form gives path request output output' =
    WroteExplained form gives path request output output'

-- the same under the request's filter, relaxed by metadata that a read of the path gave
abbrev pub WroteRelaxed : Relaxed → Format → Giving → List ℕ → Request → Option (List ℕ) → Option (List ℕ) → Type 0
WroteRelaxed what form gives path request output output' = (metadata : List ℕ) × (made : RelaxedRequest)
    × gives path (Some metadata) × (relaxed_request metadata request ≡ Ok made)
    × WroteAsked what form gives path made.request output output'

-- the changes that are asked of the table whose metadata is at a path, in a form
abbrev pub WroteChanged : Format → Giving → List ℕ → ChangesRequest → Option (List ℕ) → Option (List ℕ) → Type 0
WroteChanged form gives path request output output' = (metadata : List ℕ) × gives path (Some metadata)
    × WroteChangesOfGiven form gives metadata request output output'

-- the request that is meant: the one that is asked, or the same relaxed, by metadata that a read of the path gave
abbrev pub IsMeantBy : Bool → Giving → List ℕ → Request → Request → Type 0
IsMeantBy false gives path asked meant = meant ≡ asked
IsMeantBy true gives path asked meant = (metadata : List ℕ) × (made : RelaxedRequest) × gives path (Some metadata)
    × (relaxed_request metadata asked ≡ Ok made) × (meant ≡ made.request)

abbrev pub IsMeant : Giving → List ℕ → Asked → Request → Type 0
IsMeant gives path asked meant = IsMeantBy asked.relaxed gives path asked.request meant

-- the state of a share of the plan that is asked of the table whose metadata is at a path
abbrev pub WroteTaken : Giving → List ℕ → Asked → Share → Option (List ℕ) → Option (List ℕ) → Type 0
WroteTaken gives path asked share output output' = (meant : Request) × IsMeant gives path asked meant
    × WroteShare gives path meant share output output'

-- the plan of states, in a form
abbrev pub WroteFinishedAs : Format → Giving → Giving → List ℕ → Request → List (List ℕ) → Option (List ℕ)
    → Option (List ℕ) → Type 0
WroteFinishedAs format.Text gives kept path request states output output' =
    WrotePlanOfStates gives kept path request states output output'
WroteFinishedAs format.Json gives kept path request states output output' =
    WroteJsonOfStates gives kept path request states output output'

abbrev pub WroteFinished : Format → Giving → Giving → List ℕ → Asked → List (List ℕ) → Option (List ℕ)
    → Option (List ℕ) → Type 0
WroteFinished form gives kept path asked states output output' = (meant : Request) × IsMeant gives path asked meant
    × WroteFinishedAs form gives kept path meant states output output'

-- What a command wrote that ended without a fault and told of so many faults of a table: over a folder, of bytes that
-- reads below it gave. Of a commit `IsStored` and `IsStoredOfGiven` say more.
abbrev pub WroteOfGiven : GivingBelow → Command → ℕ → Option (List ℕ) → Option (List ℕ) → Type 0
WroteOfGiven below (command.ListPlan (lists.Folder place list) form) count output output' =
    WroteListPlan (given_at below place) list form output output'
WroteOfGiven below (command.Plan (source.Folder place) request form workers path) count output output' =
    WrotePlanAt (given_at below place) path request form output output'
WroteOfGiven below (command.Show (source.Folder place) form path) count output output' =
    WroteShown form (given_at below place) path output output'
WroteOfGiven below (command.Audit (source.Folder place) target form workers path) count output output' =
    WroteAudited form (given_at below place) path target count output output'
WroteOfGiven below (command.AuditAll (source.Folder place) form workers path) count output output' =
    WroteAuditsAt form (given_at below place) path count output output'
WroteOfGiven below (command.Explain (source.Folder place) request form workers path) count output output' =
    WroteExplained form (given_at below place) path request output output'
WroteOfGiven below (command.Relaxed what (source.Folder place) request form workers path) count output output' =
    WroteRelaxed what form (given_at below place) path request output output'
WroteOfGiven below (command.Columns (source.Folder place) target form path) count output output' =
    WroteColumns form (given_at below place) path target output output'
WroteOfGiven below (command.Changes (source.Folder place) request form workers path) count output output' =
    WroteChanged form (given_at below place) path request output output'
WroteOfGiven below (command.Reachable (source.Folder place) part form path) count output output' =
    WrotePart (given_at below place) form part path output output'
WroteOfGiven below (command.Orphans place older form path) count output output' =
    WroteStrays (given_at below place) form older path output output'
WroteOfGiven below (command.Take (source.Folder place) asked share workers path) count output output' =
    WroteTaken (given_at below place) path asked share output output'
WroteOfGiven below (command.Join states) count output output' = WroteJoin (named below) states.paths output output'
WroteOfGiven below (command.Finish (source.Folder place) asked states form workers path) count output output' =
    WroteFinished form (given_at below place) (named below) path asked states.paths output output'
WroteOfGiven below _ count output output' = Unit {0}

-- the same of words that were read
abbrev pub WroteOfGivenBy : GivingBelow → Result Command RunFault → ℕ → Option (List ℕ) → Option (List ℕ) → Type 0
WroteOfGivenBy below (Ok asked) count output output' = WroteOfGiven below asked count output output'
WroteOfGivenBy below (Err fault) count output output' = Unit {0}
