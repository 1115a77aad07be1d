-- The answers in JSON are those in text, and tell their plans.
use Rattle.std.proofs.Common.{◌≡◌, ◌∙◌, ℕ, Bool, true, false, List, Some, ap, map, option_and_then, refl, sym}
use Rattle.std.specs.Prelude.{Result, Ok, Err, nat_le, ◌&&◌, if◌then◌else◌}
use Rattle.contract_words.specs.Outcome.{◌>>=◌}
use Rattle.serde_json.specs.Data.{Data}
use Rattle.serde_json.specs.Read.{read}
use Rattle.serde_json.specs.Written.{compact_text}
use Rattle.icescan_json.specs.PlanJson.{plan_json}
use Rattle.icescan_json.proofs.FiltersThere.{asked_there}
use Rattle.icescan_json.specs.Expressions.{asked_text}
use Rattle.icescan_json.specs.Told.{CanBeRead, HasFittingNumbers, paths_of, told}
use Rattle.icescan_json.specs.Types.{spec_types}
use Rattle.icescan_json.specs.declared.types.SpecTypes.{SpecTypes}
use Rattle.icescan_requests.specs.ListPlans.{list_answer}
use Rattle.icescan_requests.specs.Plans.{Ending, answer_at, answer_by}
use Rattle.icescan_requests.specs.Selections.{selected}
use Rattle.ice_state.specs.Contents.{World}
use Rattle.ice_state.specs.Lines.{OwnedLine}
use Rattle.ice_state.specs.PlacedFiles.{ArePlaced, PlanPlaces, plan_of}
use Rattle.icescan_text.specs.Reads.{file_in}
use Rattle.icescan_text.specs.declared.fault.RunFault.{RunFault}
use Rattle.icescan_text.specs.declared.fault.RunFault.TheVariants as run
use Rattle.icescan_text.specs.declared.request.Request.{Request}
use Rattle.icescan_json.specs.JsonAnswers.{IsJsonOfPlan, TellsPlan, plan_answered, typed_answer_at, typed_answer_by}
use Rattle.icescan_json.specs.JsonAnswers.{typed_list_answer}
use Rattle.icescan_json.specs.declared.typed.TypedPlan.{TypedPlan}

-- putting something beside a plan leaves the plan, or the refusal
with_residual : (residual : Result (List ℕ) RunFault) → ((r : List ℕ) × (residual ≡ Ok r))
    → (plan : Result (List OwnedLine) RunFault) (put : List ℕ → List OwnedLine → TypedPlan)
    → ((r : List ℕ) (lines : List OwnedLine) → (put r lines).plan ≡ lines)
    → plan_answered (plan >>= λ lines. residual >>= λ r. Ok (put r lines)) ≡ plan
with_residual residual some (Ok lines) put same = rw (some.1, same some.0 lines) refl
with_residual residual some (Err e) put same = refl

beside : (plan : Result (List OwnedLine) RunFault) (put : List OwnedLine → TypedPlan)
    → ((lines : List OwnedLine) → (put lines).plan ≡ lines) → plan_answered (plan >>= λ lines. Ok (put lines)) ≡ plan
beside (Ok lines) put same = rw (same lines) refl
beside (Err e) put same = refl

behind_first : {A : Type 0} (first : Result A RunFault) (next : A → Result (List OwnedLine) RunFault)
    (residual : Result (List ℕ) RunFault) → ((a : A) → first ≡ Ok a → (r : List ℕ) × (residual ≡ Ok r))
    → (put : A → List ℕ → List OwnedLine → TypedPlan)
    → ((a : A) (r : List ℕ) (lines : List OwnedLine) → (put a r lines).plan ≡ lines)
    → plan_answered (first >>= λ a. (first >>= next) >>= λ lines. residual >>= λ r. Ok (put a r lines))
    ≡ (first >>= next)
behind_first (Ok a) next residual some put same = with_residual residual (some a refl) (next a) (put a) (same a)
behind_first (Err e) next residual some put same = refl

pub of_metadata : (ending : Ending) (world : World) (metadata : List ℕ) (request : Request)
    → plan_answered (typed_answer_by ending world metadata request) ≡ answer_by ending world metadata request
unfolding typed_answer_by answer_by
of_metadata ending world metadata request = behind_first (selected metadata request) _ (asked_text metadata request)
    (asked_there metadata request)
    (λ selection r lines. record { types = map spec_types selection.specs; residual = r; plan = lines })
    (λ selection r lines. refl)

of_crew : (enough : Bool) (typed : Result TypedPlan RunFault) (plan : Result (List OwnedLine) RunFault)
    → plan_answered typed ≡ plan
    → plan_answered (if enough then typed else Err run.Workers) ≡ (if enough then plan else Err run.Workers)
of_crew true typed plan same = same
of_crew false typed plan same = refl

of_file : (ending : Ending) (world : World) (request : Request) (found : Result (List ℕ) RunFault)
    → plan_answered (found >>= λ metadata. typed_answer_by ending world metadata request)
    ≡ (found >>= λ metadata. answer_by ending world metadata request)
of_file ending world request (Ok metadata) = of_metadata ending world metadata request
of_file ending world request (Err e) = refl

pub same_at : (ending : Ending) (world : World) (path : List ℕ) (request : Request) (workers : ℕ)
    → plan_answered (typed_answer_at ending world path request workers) ≡ answer_at ending world path request workers
unfolding typed_answer_at answer_at
same_at ending world path request workers = of_crew (nat_le 1 workers && nat_le workers 64) _ _
    (of_file ending world request (file_in world path))

pub same_list : (world : World) (list : List ℕ) → plan_answered (typed_list_answer world list) ≡ list_answer world list
unfolding typed_list_answer
same_list world list = beside (list_answer world list) _ (λ lines. refl)

pub asked_plan : (ending : Ending) (world : World) (path : List ℕ) (request : Request) (workers : ℕ) (typed : TypedPlan)
    → typed_answer_at ending world path request workers ≡ Ok typed
    → answer_at ending world path request workers ≡ Ok typed.plan
asked_plan ending world path request workers typed is =
    sym (same_at ending world path request workers) ∙ ap plan_answered is

-- the text of a plan tells the plan, where the text of its files at their places does
pub tells_plan : ((types : List SpecTypes) (residual : Data) (p : PlanPlaces) → CanBeRead residual
    → HasFittingNumbers p → ArePlaced p
    → option_and_then told (read (compact_text (plan_json types residual p))) ≡ Some (map paths_of (plan_of p)))
    → (typed : TypedPlan) (text : List ℕ) (json : IsJsonOfPlan typed text) → CanBeRead json.filter
    → HasFittingNumbers json.files → TellsPlan typed.plan text
tells_plan is_plan typed text json can fitting = (
  compact_text (plan_json typed.types json.filter json.files),
  json.text_is,
  is_plan typed.types json.filter json.files can fitting json.placed
      ∙ ap (λ plan. Some (map paths_of plan)) json.plan_is,
)
