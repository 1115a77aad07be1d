-- The plan that a request asks for, beside the types of the specs: what the plan gives, and why it may end.
use Rattle.std.proofs.Common.{◌≡◌, ◌<◌, ◌≤◌, ◌∙◌, ℕ, List, ap, map, refl, sym, subst}
use Rattle.std.specs.Prelude.{Ok}
use Rattle.ice_meta.specs.declared.spec.Spec.{Spec}
use Rattle.icescan_json.specs.Types.{spec_types}
use Rattle.icescan_requests.specs.Plans.{Ending, TellsTheTruth, TellsTheTruthAt, answer_at, answer_by, over_all_rows}
use Rattle.icescan_requests.specs.Plans.{over_wanted_rows}
use Rattle.icescan_requests.specs.Selections.{AreSelected, selected}
use Rattle.icescan_requests.specs.declared.selection.Selection.{Selection}
use Rattle.ice_state.specs.Contents.{World}
use Rattle.ice_state.specs.Lines.{OwnedLine}
use Rattle.icescan_text.specs.Reads.{MayEnd, file_in}
use Rattle.icescan_text.specs.Workers.{by_workers}
use Rattle.icescan_text.specs.declared.fault.RunFault.{RunFault}
use Rattle.icescan_text.specs.declared.request.Request.{Request}
use Rattle.icescan_text.proofs.Steps.{ends_before, same_next}
use Rattle.icescan_text.proofs.Enough.{enough}
use Rattle.icescan_json.specs.Expressions.{asked_text}
use Rattle.icescan_json.specs.JsonAnswers.{typed_answer_at, typed_answer_by}
use Rattle.icescan_json.specs.declared.typed.TypedPlan.{TypedPlan}
use Rattle.icescan_json.proofs.AnswersTold.{same_at}

module _ (ending : Ending) (world : World) (metadata : List ℕ) (request : Request) where
  typed_there : (selection : Selection) (plan : List OwnedLine) (residual : List ℕ)
      → selected metadata request ≡ Ok selection → answer_by ending world metadata request ≡ Ok plan
      → asked_text metadata request ≡ Ok residual → typed_answer_by ending world metadata request
      ≡ Ok (record { types = map spec_types selection.specs; residual = residual; plan = plan })
  unfolding typed_answer_by
  typed_there selection plan residual is has asked = rw (is, has, asked) refl

  -- the plan, with the types of the specs that are selected
  pub typed_found : (specs : List Spec) (typed : TypedPlan) → AreSelected metadata request specs
      → answer_by ending world metadata request ≡ Ok typed.plan → typed.types ≡ map spec_types specs
      → asked_text metadata request ≡ Ok typed.residual → typed_answer_by ending world metadata request ≡ Ok typed
  typed_found specs typed asked has types residual =
      typed_there asked.0 typed.plan typed.residual asked.1 has residual
      ∙ ap Ok (ap (λ known. record { types = known; residual = typed.residual; plan = typed.plan })
      (ap (map spec_types) (sym asked.2) ∙ sym types))

-- the same plan is the same answer
pub same_typed : (world : World) (metadata : List ℕ) (request : Request)
    → answer_by over_wanted_rows world metadata request ≡ answer_by over_all_rows world metadata request
    → typed_answer_by over_all_rows world metadata request ≡ typed_answer_by over_wanted_rows world metadata request
unfolding typed_answer_by
same_typed world metadata request same = rw same refl

-- ---- the metadata of a file

pub same_typed_at : ((world : World) (metadata : List ℕ) (request : Request) → TellsTheTruth world metadata request
    → answer_by over_wanted_rows world metadata request ≡ answer_by over_all_rows world metadata request)
    → (world : World) (path : List ℕ) (request : Request) (workers : ℕ) → TellsTheTruthAt world path request
    → typed_answer_at over_all_rows world path request workers
    ≡ typed_answer_at over_wanted_rows world path request workers
unfolding typed_answer_at
same_typed_at same world path request workers truth =
    ap (λ read. by_workers workers read) (same_next (file_in world path)
    (λ metadata. typed_answer_by over_all_rows world metadata request)
    (λ metadata. typed_answer_by over_wanted_rows world metadata request)
    (λ metadata has. same_typed world metadata request (same world metadata request (truth metadata has))))

module _ (world : World) (path : List ℕ) (request : Request) (workers : ℕ) where
  pub refused_typed_at : (r : List ℕ → Type 0) (e : RunFault)
      → MayEnd (answer_at over_wanted_rows world path request workers) r ⊥ e
      → MayEnd (typed_answer_at over_wanted_rows world path request workers) r ⊥ e
  refused_typed_at r e h =
      ends_before r (typed_answer_at over_wanted_rows world path request workers) (λ typed. typed.plan) e
      (subst (λ a. MayEnd a r ⊥ e) (sym (same_at over_wanted_rows world path request workers)) h)

  module _ (some : 0 < workers) (few : workers ≤ 64) (metadata : List ℕ) (has : file_in world path ≡ Ok metadata) where
    typed_behind : typed_answer_at over_wanted_rows world path request workers
        ≡ typed_answer_by over_wanted_rows world metadata request
    unfolding typed_answer_at
    typed_behind = enough workers _ some few ∙ rw has refl

    pub typed_found_at : (specs : List Spec) (typed : TypedPlan) → AreSelected metadata request specs
        → answer_by over_wanted_rows world metadata request ≡ Ok typed.plan → typed.types ≡ map spec_types specs
        → asked_text metadata request ≡ Ok typed.residual
        → typed_answer_at over_wanted_rows world path request workers ≡ Ok typed
    typed_found_at specs typed asked is types residual =
        typed_behind ∙ typed_found over_wanted_rows world metadata request specs typed asked is types residual
