-- What is written of texts and plans, as answers.
use Rattle.std.proofs.Common.{◌≡◌, ◌≢◌, ℕ, List, Option, Some, refl, ap, ◌∙◌}
use Rattle.std.specs.Prelude.{Result, Ok, Err, IfErr, IfOk, IsErrOf, OnOk}
use Rattle.icescan_audit.specs.JsonLines.{WroteAuditAs, WroteAuditFrontAs, audit_told}
use Rattle.icescan_audit.specs.declared.audit.Audit.{Audit}
use Rattle.icescan_explain.specs.JsonLines.{WroteExplanationAs, WroteExplanationFrontAs, explanation_told}
use Rattle.icescan_explain.specs.declared.manifests.Explanation.{Explanation}
use Rattle.icescan_forms.specs.declared.format.Format.{Format}
use Rattle.icescan_json.specs.JsonAnswers.{AnswersInJson}
use Rattle.icescan_json.specs.declared.typed.TypedPlan.{TypedPlan}
use Rattle.icescan_print.specs.PlanTexts.{plan_text}
use Rattle.icescan_print.specs.Written.{Appends, AppendsFront}
use Rattle.icescan_requests.specs.Plans.{Answers}
use Rattle.icescan_requests.specs.Shows.{WroteFront, WroteText}
use Rattle.ice_state.specs.Lines.{OwnedLine}
use Rattle.icescan_text.specs.Reads.{MayEnd}
use Rattle.icescan_text.specs.declared.fault.RunFault.{RunFault}
use Rattle.icescan_text.specs.declared.fault.RunFault.TheVariants as run
use Rattle.icescan_commands.specs.Answers.{GivesAnswer, WroteAnswer, WroteAnswerFront, as_answer, as_json, json, plain}
use Rattle.icescan_commands.specs.Runs.{Ran, as_audit, as_explanation, as_text, ended}
use Rattle.icescan_commands.specs.Sources.{failing_unread}

-- a text that is written is an answer
text_told : (read : Result (List ℕ) RunFault) (o o' : Option (List ℕ)) → WroteText read o o'
    → WroteAnswer (as_answer read) o o'
text_told read o o' w = (plain w.0, ap as_answer w.1, w.0, refl, w.2)

front_told : (read : Result (List ℕ) RunFault) (o o' : Option (List ℕ)) → WroteFront read o o'
    → WroteAnswerFront (as_answer read) o o'
front_told read o o' w = (plain w.0, ap as_answer w.1, w.0, refl, w.2)

-- a text alone
pub text_ran : (text : List ℕ) (w : Type 0) (o o' : Option (List ℕ)) → Appends o o' text
    → Ran (Some (Ok (plain text))) (failing_unread w) (Ok tt) o o'
text_ran text w o o' all = record {
  written = (plain text, refl, text, refl, all);
  refused = tt;
  nothing = tt;
  front = λ is. absurd cc;
}

pub text_failed : (text : List ℕ) (w : Type 0) (o o' : Option (List ℕ)) → w → AppendsFront o o' text
    → Ran (Some (Ok (plain text))) (failing_unread w) (Err run.Write) o o'
text_failed text w o o' may front = record {
  written = tt;
  refused = may;
  nothing = λ other. absurd (other refl);
  front = λ is. (plain text, refl, text, refl, front);
}

-- a fault of what is told is the answer's
ends_as : {A B : Type 0} (told : Result A RunFault → Result B RunFault) (read : Result A RunFault) (r : List ℕ → Type 0)
    (w : Type 0) (e : RunFault) → ((f : RunFault) → told (Err f) ≡ Err f) → MayEnd read r w e → MayEnd (told read) r w e
ends_as told read r w run.Memory keeps h = tt
ends_as told read r w run.Write keeps h = h
ends_as told read r w (run.Device path) keeps h = h
ends_as told read r w run.Input keeps h = ap told h ∙ keeps _
ends_as told read r w (run.Words t) keeps h = ap told h ∙ keeps _
ends_as told read r w (run.Bundle n) keeps h = ap told h ∙ keeps _
ends_as told read r w (run.Absent path) keeps h = ap told h ∙ keeps _
ends_as told read r w (run.List f) keeps h = ap told h ∙ keeps _
ends_as told read r w (run.Scan f) keeps h = ap told h ∙ keeps _
ends_as told read r w (run.Finish f) keeps h = ap told h ∙ keeps _
ends_as told read r w (run.Metadata f) keeps h = ap told h ∙ keeps _
ends_as told read r w (run.Filter f) keeps h = ap told h ∙ keeps _
ends_as told read r w (run.Drill f) keeps h = ap told h ∙ keeps _
ends_as told read r w (run.Locate f) keeps h = ap told h ∙ keeps _
ends_as told read r w (run.State path flaw) keeps h = ap told h ∙ keeps _
ends_as told read r w (run.Lineage f) keeps h = ap told h ∙ keeps _
ends_as told read r w (run.Change f) keeps h = ap told h ∙ keeps _
ends_as told read r w (run.Prepare f) keeps h = ap told h ∙ keeps _
ends_as told read r w (run.Conflict path) keeps h = ap told h ∙ keeps _
ends_as told read r w run.Workers keeps h = ap told h ∙ keeps _

pub gives_text : (read : Result (List OwnedLine) RunFault) (r : List ℕ → Type 0) (w : Type 0)
    (result : Result Unit RunFault) (o o' : Option (List ℕ)) → Answers read r w result o o'
    → GivesAnswer (as_answer (as_text read)) r w result o o'
gives_text read r w (Ok x) o o' h = record {
  written = let v = h.written in text_told (as_text read) o o' (plan_text v.0, ap as_text v.1, v.2);
  refused = tt;
  front = λ is. absurd cc;
}
gives_text read r w (Err e) o o' h = record {
  written = tt;
  refused = ends_as (λ x. as_answer (as_text x)) read r w e (λ f. refl) h.refused;
  front = λ is. let v = h.front is in front_told (as_text read) o o' (plan_text v.0, ap as_text v.1, v.2);
}

pub gives_json : (read : Result TypedPlan RunFault) (r : List ℕ → Type 0) (w : Type 0)
    (result : Result Unit RunFault) (o o' : Option (List ℕ)) → AnswersInJson read r w result o o'
    → GivesAnswer (as_json read) r w result o o'
gives_json read r w (Ok x) o o' h = record {
  written = let v = h.written in (json v.0, ap as_json v.1, v.2, v.3, v.4);
  refused = tt;
  front = λ is. absurd cc;
}
gives_json read r w (Err e) o o' h = record {
  written = tt;
  refused = ends_as as_json read r w e (λ f. refl) h.refused;
  front = λ is. let v = h.front is in (json v.0, ap as_json v.1, v.2, v.3, v.4);
}

pub gives_shown : (read : Result (List ℕ) RunFault) (r : List ℕ → Type 0) (w : Type 0) (result : Result Unit RunFault)
    (o o' : Option (List ℕ)) → OnOk result (WroteText read o o') → IfErr result (MayEnd read r w)
    → (IsErrOf result run.Write → WroteFront read o o') → GivesAnswer (as_answer read) r w result o o'
gives_shown read r w (Ok x) o o' all refused front =
    record { written = text_told read o o' all; refused = tt; front = λ is. absurd cc }
gives_shown read r w (Err e) o o' all refused front = record {
  written = tt;
  refused = ends_as as_answer read r w e (λ f. refl) refused;
  front = λ is. front_told read o o' (front is);
}

pub gives_explained : (form : Format) (read : Result Explanation RunFault) (r : List ℕ → Type 0) (w : Type 0)
    (result : Result Unit RunFault) (o o' : Option (List ℕ)) → OnOk result (WroteExplanationAs form read o o')
    → IfErr result (MayEnd read r w) → (IsErrOf result run.Write → WroteExplanationFrontAs form read o o')
    → GivesAnswer (as_answer (as_explanation form read)) r w result o o'
gives_explained form read r w (Ok x) o o' all refused front = record {
  written = text_told (as_explanation form read) o o'
      (explanation_told form all.0, ap (as_explanation form) all.1, all.2);
  refused = tt;
  front = λ is. absurd cc;
}
gives_explained form read r w (Err e) o o' all refused front = record {
  written = tt;
  refused = ends_as (λ x. as_answer (as_explanation form x)) read r w e (λ f. refl) refused;
  front = λ is. let v = front is in
      front_told (as_explanation form read) o o' (explanation_told form v.0, ap (as_explanation form) v.1, v.2);
}

pub gives_audited : (form : Format) (read : Result Audit RunFault) (r : List ℕ → Type 0) (w : Type 0)
    (result : Result ℕ RunFault) (o o' : Option (List ℕ)) → IfOk result (λ count. WroteAuditAs form read count o o')
    → IfErr result (MayEnd read r w) → (IsErrOf result run.Write → WroteAuditFrontAs form read o o')
    → GivesAnswer (as_answer (as_audit form read)) r w (ended result) o o'
gives_audited form read r w (Ok count) o o' all refused front = record {
  written = text_told (as_audit form read) o o' (audit_told form all.0, ap (as_audit form) all.1, all.3);
  refused = tt;
  front = λ is. absurd cc;
}
gives_audited form read r w (Err e) o o' all refused front = record {
  written = tt;
  refused = ends_as (λ x. as_answer (as_audit form x)) read r w e (λ f. refl) refused;
  front = λ is. let failed : e ≡ run.Write = cc in
      let v = front (ap Err failed) in
      front_told (as_audit form read) o o' (audit_told form v.0, ap (as_audit form) v.1, v.2);
}

pub still_nothing : (result : Result ℕ RunFault) (o o' : Option (List ℕ))
    → IfErr result (λ fault. fault ≢ run.Write → o' ≡ o) → IfErr (ended result) (λ fault. fault ≢ run.Write → o' ≡ o)
still_nothing (Ok count) o o' h = tt
still_nothing (Err e) o o' h = h
