-- What was written of bytes that reads below a folder gave.
use Rattle.std.proofs.Common.{◌≡◌, ℕ, Bool, true, false, List, Option, subst, sym}
use Rattle.std.specs.Prelude.{Result, Ok, Err, IfOk, OnOk}
use Rattle.std.proofs.lemmas.Result.{IfOk-weaker, on_ok_weaker}
use Rattle.ice_desk.specs.Given.{Giving}
use Rattle.ice_meta.specs.declared.metadata.Target.{Target}
use Rattle.icescan_audit.proofs.AnyFiles.{more_audits}
use Rattle.icescan_audit_all.proofs.MoreGiven.{audits_more}
use Rattle.icescan_audit_all.specs.Texts.{WroteAuditsAt}
use Rattle.icescan_changes.proofs.MoreGiven.{more_changes}
use Rattle.icescan_explain.proofs.MoreGiven.{more_explanations}
use Rattle.icescan_files.specs.Folders.{named}
use Rattle.icescan_forms.specs.declared.part.Part.{Part}
use Rattle.icescan_parts.proofs.MoreKept.{more_part}
use Rattle.icescan_parts.specs.Kept.{WrotePart}
use Rattle.icescan_requests.proofs.GivenPlans.{more_plans}
use Rattle.icescan_shares.proofs.MoreGiven.{more_finished, more_share, more_states}
use Rattle.icescan_text.specs.declared.fault.RunFault.{RunFault}
use Rattle.icescan_text.specs.declared.request.ChangesRequest.{ChangesRequest}
use Rattle.icescan_text.specs.declared.request.Request.{Request}
use Rattle.icescan_text.specs.declared.share.Share.{Share}
use Rattle.icescan_forms.specs.declared.format.Format.{Format}
use Rattle.icescan_forms.specs.declared.format.Format.TheVariants as format
use Rattle.icescan_words.specs.declared.command.Asked.{Asked}
use Rattle.icescan_words.specs.declared.command.Command.TheVariants as command
use Rattle.icescan_words.specs.declared.command.Relaxed.{Relaxed}
use Rattle.icescan_words.specs.declared.command.Relaxed.TheVariants as relaxed
use Rattle.icescan_words.specs.declared.command.Source.{Source}
use Rattle.icescan_words.specs.declared.command.Source.TheVariants as source
use Rattle.icescan_words.specs.declared.command.States.{States}
use Rattle.icescan_commands.specs.Reading.{IsMeantBy, WroteChanged, WroteFinished, WroteFinishedAs, WroteTaken}
use Rattle.icescan_commands.specs.Reading.{AreGivenBelow, GivingBelow, WroteAudited, WroteColumns, WroteExplained}
use Rattle.icescan_commands.specs.Reading.{WroteAsked, WroteOfGiven, WrotePlanAt, WroteRelaxed, WroteShown}
use Rattle.icescan_commands.specs.Runs.{ended}

-- nothing is said
pub any_ok : {A : Type 0} (r : Result A RunFault) → OnOk r (Unit {0})
any_ok (Ok x) = tt
any_ok (Err e) = tt

pub any_count : {A : Type 0} (r : Result A RunFault) → IfOk r (λ n. Unit {0})
any_count (Ok x) = tt
any_count (Err e) = tt

-- a command that tells of no findings
pub counted_as : (P : ℕ → Type 0) (r : Result Unit RunFault) (counted : Result ℕ RunFault) → ended counted ≡ r
    → IfOk counted (λ n. n ≡ 0) → OnOk r (P 0) → IfOk counted P
counted_as P r (Ok n) is none h =
    let at : OnOk (ended (Ok n)) (P 0) = subst (λ (x : Result Unit RunFault). OnOk x (P 0)) (sym is) h in
    subst P (sym none) at
counted_as P r (Err e) is none h = tt

-- a plan of what files gave is one of what reads below their folder gave
plan_more : (gives more : Giving) → ((path : List ℕ) (found : Option (List ℕ)) → gives path found → more path found)
    → (path : List ℕ) (request : Request) (form : Format) (o o' : Option (List ℕ))
    → WrotePlanAt gives path request form o o' → WrotePlanAt more path request form o o'
plan_more gives more wider path request format.Text o o' w = (
  w.0,
  record {
    metadata = w.1.metadata;
    read = wider path _ w.1.read;
    planned = more_plans gives more wider w.1.metadata request w.0 w.1.planned;
  },
  w.2,
)
plan_more gives more wider path request format.Json o o' w =
    let typed = w.1 in (
      w.0,
      (
        typed.0,
        wider path _ typed.1,
        record {
          planned = more_plans gives more wider typed.0 request w.0.plan typed.2.planned;
          selection = typed.2.selection;
          asked = typed.2.asked;
          types_are = typed.2.types_are;
          residual_is = typed.2.residual_is;
        },
      ),
      w.2,
      w.3,
      w.4,
    )

audit_more : (gives more : Giving) → ((path : List ℕ) (found : Option (List ℕ)) → gives path found → more path found)
    → (form : Format) (path : List ℕ) (target : Target) (count : ℕ) (o o' : Option (List ℕ))
    → WroteAudited form gives path target count o o' → WroteAudited form more path target count o o'
audit_more gives more wider form path target count o o' (metadata, read, (audit, is, counted, wrote)) = (
  metadata,
  wider path _ read,
  (audit, more_audits gives more wider metadata target audit is, counted, wrote),
)

explain_more : (gives more : Giving) → ((path : List ℕ) (found : Option (List ℕ)) → gives path found → more path found)
    → (form : Format) (path : List ℕ) (request : Request) (o o' : Option (List ℕ))
    → WroteExplained form gives path request o o' → WroteExplained form more path request o o'
explain_more gives more wider form path request o o' (metadata, read, (x, is, wrote)) = (
  metadata,
  wider path _ read,
  (x, more_explanations gives more wider metadata request x is, wrote),
)

asked_more : (gives more : Giving) → ((path : List ℕ) (found : Option (List ℕ)) → gives path found → more path found)
    → (what : Relaxed) (form : Format) (path : List ℕ) (request : Request) (o o' : Option (List ℕ))
    → WroteAsked what form gives path request o o' → WroteAsked what form more path request o o'
asked_more gives more wider relaxed.Plan form path request o o' w = plan_more gives more wider path request form o o' w
asked_more gives more wider relaxed.Explanation form path request o o' w =
    explain_more gives more wider form path request o o' w

relaxed_more : (gives more : Giving) → ((path : List ℕ) (found : Option (List ℕ)) → gives path found → more path found)
    → (what : Relaxed) (form : Format) (path : List ℕ) (request : Request) (o o' : Option (List ℕ))
    → WroteRelaxed what form gives path request o o' → WroteRelaxed what form more path request o o'
relaxed_more gives more wider what form path request o o' (metadata, made, read, is, wrote) =
    (metadata, made, wider path _ read, is, asked_more gives more wider what form path made.request o o' wrote)

meant_more : (gives more : Giving) → ((path : List ℕ) (found : Option (List ℕ)) → gives path found → more path found)
    → (path : List ℕ) (relaxes : Bool) (asked meant : Request) → IsMeantBy relaxes gives path asked meant
    → IsMeantBy relaxes more path asked meant
meant_more gives more wider path false asked meant is = is
meant_more gives more wider path true asked meant (metadata, made, read, is, same) =
    (metadata, made, wider path _ read, is, same)

taken_more : (gives more : Giving) → ((path : List ℕ) (found : Option (List ℕ)) → gives path found → more path found)
    → (path : List ℕ) (asked : Asked) (share : Share) (o o' : Option (List ℕ))
    → WroteTaken gives path asked share o o' → WroteTaken more path asked share o o'
taken_more gives more wider path asked share o o' (meant, is, wrote) = (
  meant,
  meant_more gives more wider path asked.relaxed asked.request meant is,
  more_share gives more wider path meant share o o' wrote,
)

finished_as_more : (gives more : Giving)
    → ((path : List ℕ) (found : Option (List ℕ)) → gives path found → more path found) → (form : Format)
    (kept : Giving) (path : List ℕ) (request : Request) (states : List (List ℕ)) (o o' : Option (List ℕ))
    → WroteFinishedAs form gives kept path request states o o' → WroteFinishedAs form more kept path request states o o'
finished_as_more gives more wider format.Text kept path request states o o' w =
    more_finished gives more wider kept path request states o o' w
finished_as_more gives more wider format.Json kept path request states o o' (metadata, read, wrote) =
    let typed = wrote.1 in (
      metadata,
      wider path _ read,
      (
        wrote.0,
        record {
          planned = more_states gives more wider kept metadata request states wrote.0.plan typed.planned;
          selection = typed.selection;
          asked = typed.asked;
          types_are = typed.types_are;
          residual_is = typed.residual_is;
        },
        wrote.2,
        wrote.3,
        wrote.4,
      ),
    )

finished_more : (gives more : Giving)
    → ((path : List ℕ) (found : Option (List ℕ)) → gives path found → more path found) → (form : Format)
    (kept : Giving) (path : List ℕ) (asked : Asked) (states : List (List ℕ)) (o o' : Option (List ℕ))
    → WroteFinished form gives kept path asked states o o' → WroteFinished form more kept path asked states o o'
finished_more gives more wider form kept path asked states o o' (meant, is, wrote) = (
  meant,
  meant_more gives more wider path asked.relaxed asked.request meant is,
  finished_as_more gives more wider form kept path meant states o o' wrote,
)

changes_more : (gives more : Giving) → ((path : List ℕ) (found : Option (List ℕ)) → gives path found → more path found)
    → (form : Format) (path : List ℕ) (request : ChangesRequest) (o o' : Option (List ℕ))
    → WroteChanged form gives path request o o' → WroteChanged form more path request o o'
changes_more gives more wider form path request o o' (metadata, read, (text, is, wrote)) = (
  metadata,
  wider path _ read,
  (text, more_changes gives more wider form metadata request text is, wrote),
)

module _ (below : GivingBelow) where
  pub plan_below : (from : Source) (gives : Giving) → AreGivenBelow below from gives → (path : List ℕ)
      (request : Request) (form : Format) (workers : ℕ) (result : Result Unit RunFault) (o o' : Option (List ℕ))
      → OnOk result (WrotePlanAt gives path request form o o')
      → OnOk result (WroteOfGiven below (command.Plan from request form workers path) 0 o o')
  plan_below source.Bundle gives wider path request form workers result o o' wrote = any_ok result
  plan_below (source.Folder place) gives wider path request form workers result o o' wrote =
      on_ok_weaker result (plan_more gives (below place.folder place.prefix) wider path request form o o') wrote

  pub show_below : (from : Source) (gives : Giving) → AreGivenBelow below from gives → (form : Format)
      (path : List ℕ) (result : Result Unit RunFault) (o o' : Option (List ℕ))
      → OnOk result (WroteShown form gives path o o')
      → OnOk result (WroteOfGiven below (command.Show from form path) 0 o o')
  show_below source.Bundle gives wider form path result o o' wrote = any_ok result
  show_below (source.Folder place) gives wider form path result o o' wrote =
      on_ok_weaker result (λ w. (w.0, wider path _ w.1, w.2)) wrote

  pub columns_below : (from : Source) (gives : Giving) → AreGivenBelow below from gives → (form : Format)
      (path : List ℕ) (target : Target) (result : Result Unit RunFault) (o o' : Option (List ℕ))
      → OnOk result (WroteColumns form gives path target o o')
      → OnOk result (WroteOfGiven below (command.Columns from target form path) 0 o o')
  columns_below source.Bundle gives wider form path target result o o' wrote = any_ok result
  columns_below (source.Folder place) gives wider form path target result o o' wrote =
      on_ok_weaker result (λ w. (w.0, wider path _ w.1, w.2)) wrote

  pub reachable_below : (from : Source) (gives : Giving) → AreGivenBelow below from gives → (form : Format)
      (part : Part) (path : List ℕ) (result : Result Unit RunFault) (o o' : Option (List ℕ))
      → OnOk result (WrotePart gives form part path o o')
      → OnOk result (WroteOfGiven below (command.Reachable from part form path) 0 o o')
  reachable_below source.Bundle gives wider form part path result o o' wrote = any_ok result
  reachable_below (source.Folder place) gives wider form part path result o o' wrote =
      on_ok_weaker result (more_part gives (below place.folder place.prefix) wider form part path o o') wrote

  pub audit_below : (from : Source) (gives : Giving) → AreGivenBelow below from gives → (form : Format)
      (path : List ℕ) (target : Target) (workers : ℕ) (result : Result ℕ RunFault) (o o' : Option (List ℕ))
      → IfOk result (λ count. WroteAudited form gives path target count o o')
      → IfOk result (λ count. WroteOfGiven below (command.Audit from target form workers path) count o o')
  audit_below source.Bundle gives wider form path target workers result o o' wrote = any_count result
  audit_below (source.Folder place) gives wider form path target workers result o o' wrote =
      IfOk-weaker result _ _
      (λ count w. audit_more gives (below place.folder place.prefix) wider form path target count o o' w) wrote

  pub audits_below : (from : Source) (gives : Giving) → AreGivenBelow below from gives → (form : Format)
      (path : List ℕ) (workers : ℕ) (result : Result ℕ RunFault) (o o' : Option (List ℕ))
      → IfOk result (λ count. WroteAuditsAt form gives path count o o')
      → IfOk result (λ count. WroteOfGiven below (command.AuditAll from form workers path) count o o')
  audits_below source.Bundle gives wider form path workers result o o' wrote = any_count result
  audits_below (source.Folder place) gives wider form path workers result o o' wrote =
      IfOk-weaker result _ _
      (λ count w. audits_more gives (below place.folder place.prefix) wider form path count o o' w) wrote

  pub explain_below : (from : Source) (gives : Giving) → AreGivenBelow below from gives → (form : Format)
      (path : List ℕ) (request : Request) (workers : ℕ) (result : Result Unit RunFault) (o o' : Option (List ℕ))
      → OnOk result (WroteExplained form gives path request o o')
      → OnOk result (WroteOfGiven below (command.Explain from request form workers path) 0 o o')
  explain_below source.Bundle gives wider form path request workers result o o' wrote = any_ok result
  explain_below (source.Folder place) gives wider form path request workers result o o' wrote =
      on_ok_weaker result (explain_more gives (below place.folder place.prefix) wider form path request o o') wrote

  pub relaxed_below : (from : Source) (gives : Giving) → AreGivenBelow below from gives → (what : Relaxed)
      (form : Format) (path : List ℕ) (request : Request) (workers : ℕ) (result : Result Unit RunFault)
      (o o' : Option (List ℕ)) → OnOk result (WroteRelaxed what form gives path request o o')
      → OnOk result (WroteOfGiven below (command.Relaxed what from request form workers path) 0 o o')
  relaxed_below source.Bundle gives wider what form path request workers result o o' wrote = any_ok result
  relaxed_below (source.Folder place) gives wider what form path request workers result o o' wrote =
      on_ok_weaker result (relaxed_more gives (below place.folder place.prefix) wider what form path request o o') wrote

  pub taken_below : (from : Source) (gives : Giving) → AreGivenBelow below from gives → (path : List ℕ)
      (asked : Asked) (share : Share) (workers : ℕ) (result : Result Unit RunFault) (o o' : Option (List ℕ))
      → OnOk result (WroteTaken gives path asked share o o')
      → OnOk result (WroteOfGiven below (command.Take from asked share workers path) 0 o o')
  taken_below source.Bundle gives wider path asked share workers result o o' wrote = any_ok result
  taken_below (source.Folder place) gives wider path asked share workers result o o' wrote =
      on_ok_weaker result (taken_more gives (below place.folder place.prefix) wider path asked share o o') wrote

  pub finished_below : (from : Source) (gives : Giving) → AreGivenBelow below from gives → (path : List ℕ)
      (asked : Asked) (states : States) (form : Format) (workers : ℕ) (result : Result Unit RunFault)
      (o o' : Option (List ℕ)) → OnOk result (WroteFinished form gives (named below) path asked states.paths o o')
      → OnOk result (WroteOfGiven below (command.Finish from asked states form workers path) 0 o o')
  finished_below source.Bundle gives wider path asked states form workers result o o' wrote = any_ok result
  finished_below (source.Folder place) gives wider path asked states form workers result o o' wrote =
      on_ok_weaker result (finished_more gives (below place.folder place.prefix) wider form (named below) path asked
      states.paths o o') wrote

  pub changes_below : (from : Source) (gives : Giving) → AreGivenBelow below from gives → (form : Format)
      (path : List ℕ) (request : ChangesRequest) (workers : ℕ) (result : Result Unit RunFault)
      (o o' : Option (List ℕ)) → OnOk result (WroteChanged form gives path request o o')
      → OnOk result (WroteOfGiven below (command.Changes from request form workers path) 0 o o')
  changes_below source.Bundle gives wider form path request workers result o o' wrote = any_ok result
  changes_below (source.Folder place) gives wider form path request workers result o o' wrote =
      on_ok_weaker result (changes_more gives (below place.folder place.prefix) wider form path request o o') wrote
