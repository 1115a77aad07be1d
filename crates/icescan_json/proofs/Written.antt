-- What is written of an answer in JSON, and why it may end.
use Rattle.std.proofs.Common.{◌≡◌, ◌≢◌, ◌⊎◌, ◌<◌, inl, inr, ℕ, List, Option, sym, ap, subst}
use Rattle.std.specs.Prelude.{Result, Ok, Err, OnOk, IfErr, IsErrOf}
use Rattle.std.proofs.lemmas.Result.{on_ok_weaker}
use Rattle.icescan_print.specs.Written.{Appends, AppendsFront}
use Rattle.icescan_requests.specs.Plans.{Ending}
use Rattle.ice_state.specs.Contents.{World}
use Rattle.icescan_text.specs.Reads.{MayEnd}
use Rattle.icescan_text.specs.declared.fault.RunFault.{RunFault}
use Rattle.icescan_text.specs.declared.fault.RunFault.TheVariants as run
use Rattle.icescan_text.specs.declared.request.Request.{Request}
use Rattle.icescan_text.specs.Workers.{by_workers}
use Rattle.icescan_text.proofs.Steps.{may_write}
use Rattle.icescan_text.proofs.Enough.{not_enough}
use Rattle.icescan_json.specs.JsonAnswers.{AnswersInJson, IsJsonOfPlan, WritesJson, WroteJsonThat}
use Rattle.icescan_json.specs.JsonAnswers.{typed_answer_at}
use Rattle.icescan_json.specs.declared.typed.TypedPlan.{TypedPlan}

-- a refusal that comes before the first write
pub refused_json : (answer : Result TypedPlan RunFault) (r : List ℕ → Type 0) (w : Type 0) (e : RunFault)
    (o o' : Option (List ℕ)) → MayEnd answer r ⊥ e → (e ≢ run.Write) → AnswersInJson answer r w (Err e) o o'
refused_json answer r w e o o' h not_write = record {
  written = tt;
  refused = may_write r w answer e h;
  front = λ is. let q : e ≡ run.Write = cc in absurd (not_write q);
}

pub refused_writes_none : (e : RunFault) (o o' : Option (List ℕ)) → (e ≢ run.Write) → WritesJson (Err e) o o'
refused_writes_none e o o' not_write =
    record { all = tt; front = λ is. let q : e ≡ run.Write = cc in absurd (not_write q) }

-- what writing the JSON of a plan gives
module _ (typed : TypedPlan) (result : Result Unit RunFault) (w : Type 0) (o o' : Option (List ℕ))
    (all : OnOk result ((text : List ℕ) × IsJsonOfPlan typed text × Appends o o' text))
    (front : IsErrOf result run.Write → (text : List ℕ) × IsJsonOfPlan typed text × AppendsFront o o' text) where
  pub written_json : (answer : Result TypedPlan RunFault) (r : List ℕ → Type 0) → answer ≡ Ok typed
      → IfErr result (λ e. (e ≡ run.Memory) ⊎ (e ≡ run.Write)) → (IsErrOf result run.Write → w)
      → AnswersInJson answer r w result o o'
  written_json answer r is causes fails = record {
    written = on_ok_weaker result (λ t. (typed, is, t.0, t.1, t.2)) all;
    refused = ends result causes fails;
    front = λ failed. let f = front failed in (typed, is, f.0, f.1, f.2);
  }
    where
      ends : (result : Result Unit RunFault) → IfErr result (λ e. (e ≡ run.Memory) ⊎ (e ≡ run.Write))
          → (IsErrOf result run.Write → w) → IfErr result (MayEnd answer r w)
      ends (Ok u) causes fails = tt
      ends (Err e) (inl is) fails = subst (MayEnd answer r w) (sym is) tt
      ends (Err e) (inr is) fails = subst (MayEnd answer r w) (sym is) (fails (ap Err is))

  pub writes_json : WritesJson result o o'
  writes_json = record {
    all = on_ok_weaker result (λ t. (typed, t.0, t.1, t.2)) all;
    front = λ failed. let f = front failed in (typed, f.0, f.1, f.2);
  }

-- a JSON of a plan that is so
pub json_that : (so : TypedPlan → Type 0) (typed : TypedPlan) (result : Result Unit RunFault) (o o' : Option (List ℕ))
    → so typed → OnOk result ((text : List ℕ) × IsJsonOfPlan typed text × Appends o o' text)
    → OnOk result (WroteJsonThat so o o')
json_that so typed result o o' is all = on_ok_weaker result (λ t. (typed, is, t.0, t.1, t.2)) all

-- a number of workers that there may not be
pub no_workers : (workers : ℕ) (read : Result TypedPlan RunFault) (r : List ℕ → Type 0) (w : Type 0) (e : RunFault)
    (o o' : Option (List ℕ)) → (e ≡ run.Workers) × ((workers ≡ 0) ⊎ (64 < workers))
    → AnswersInJson (by_workers workers read) r w (Err e) o o'
no_workers workers read r w e o o' h =
    subst (λ x. AnswersInJson (by_workers workers read) r w (Err x) o o') (sym h.0)
    (refused_json (by_workers workers read) r w run.Workers o o' (not_enough workers read h.1) (λ is. absurd cc))

pub no_workers_at : (ending : Ending) (world : World) (path : List ℕ) (request : Request) (workers : ℕ)
    (r : List ℕ → Type 0) (w : Type 0) (e : RunFault) (o o' : Option (List ℕ))
    → (e ≡ run.Workers) × ((workers ≡ 0) ⊎ (64 < workers))
    → AnswersInJson (typed_answer_at ending world path request workers) r w (Err e) o o'
unfolding typed_answer_at
no_workers_at ending world path request workers r w e o o' h = no_workers workers _ r w e o o' h
