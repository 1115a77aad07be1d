-- Plans that are asked for, as JSON. The plan is the one that is answered as text; beside it stand the types of the
-- partition specs that it was asked under, by which the values of partitions are written, and the filter.
use Rattle.std.specs.Prelude.{◌≡◌, ℕ, List, [], ◌∷◌, ◌++◌, map, Option, Some, Result, Ok, OnOk, IfErr, IsErrOf}
use Rattle.std.specs.Prelude.{option_and_then}
use Rattle.contract_words.specs.Outcome.{◌>>=◌}
use Rattle.serde_json.specs.Read.{read}
use Rattle.icescan_json.specs.Expressions.{asked_text, every_row_text}
use Rattle.icescan_json.specs.Texts.{IsJsonOf}
use Rattle.icescan_json.specs.Told.{paths_of, told}
use Rattle.icescan_json.specs.Types.{spec_types}
use Rattle.icescan_json.specs.declared.typed.TypedPlan.{TypedPlan}
use Rattle.icescan_print.specs.Written.{Appends, AppendsFront}
use Rattle.ice_desk.specs.Given.{Giving}
use Rattle.icescan_requests.specs.GivenPlans.{IsListPlanOfGiven, IsPlanOfGiven}
use Rattle.icescan_requests.specs.ListPlans.{list_answer}
use Rattle.icescan_requests.specs.Plans.{Ending, answer_by}
use Rattle.icescan_requests.specs.Selections.{selected}
use Rattle.icescan_requests.specs.declared.selection.Selection.{Selection}
use Rattle.ice_state.specs.Contents.{World}
use Rattle.ice_state.specs.Lines.{OwnedLine}
use Rattle.icescan_text.specs.Reads.{MayEnd, file_in}
use Rattle.icescan_text.specs.Workers.{by_workers}
use Rattle.icescan_text.specs.declared.fault.RunFault.{RunFault}
use Rattle.icescan_text.specs.declared.fault.RunFault.TheVariants as run
use Rattle.icescan_text.specs.declared.request.Request.{Request}

-- ---- what is answered

-- the plan that a request asks for, with the types of the table's specs and the request's filter, or its first refusal
unfoldable pub typed_answer_by : Ending → World → List ℕ → Request → Result TypedPlan RunFault
typed_answer_by ending world metadata request = do
  selection ← selected metadata request
  plan ← answer_by ending world metadata request
  residual ← asked_text metadata request
  Ok (record { types = map spec_types selection.specs; residual = residual; plan = plan })

-- the same of the metadata in the file at a path, by so many workers; their number comes before all else
unfoldable pub typed_answer_at : Ending → World → List ℕ → Request → ℕ → Result TypedPlan RunFault
typed_answer_at ending world path request workers =
    by_workers workers (file_in world path >>= λ metadata. typed_answer_by ending world metadata request)

-- the plan of the manifest list at a path, of which no types are known, or its first refusal
unfoldable pub typed_list_answer : World → List ℕ → Result TypedPlan RunFault
typed_list_answer world list = do
  plan ← list_answer world list
  Ok (record { types = []; residual = every_row_text; plan = plan })

-- the plan of an answer, or its refusal
abbrev pub plan_answered : Result TypedPlan RunFault → Result (List OwnedLine) RunFault
plan_answered answer = answer >>= λ typed. Ok typed.plan

-- the plan that a request asks for, of bytes that reads gave, with the types of the table's specs
pub record IsTypedOfGiven (gives : Giving) (metadata : List ℕ) (request : Request) (typed : TypedPlan) : Type 0 where
  pub planned : IsPlanOfGiven gives metadata request typed.plan
  pub selection : Selection
  pub asked : selected metadata request ≡ Ok selection
  pub types_are : typed.types ≡ map spec_types selection.specs
  pub residual_is : asked_text metadata request ≡ Ok typed.residual

-- the same of the metadata that a read of a path gave
abbrev pub IsTypedOfGivenAt : Giving → List ℕ → Request → TypedPlan → Type 0
IsTypedOfGivenAt gives path request typed = (metadata : List ℕ) × gives path (Some metadata)
    × IsTypedOfGiven gives metadata request typed

-- the plan of the manifest list at a path, of bytes that reads gave; no types are known, and no filter is asked
abbrev pub IsTypedListOfGiven : Giving → List ℕ → TypedPlan → Type 0
IsTypedListOfGiven gives list typed = IsListPlanOfGiven gives list typed.plan × (typed.types ≡ [])
    × (typed.residual ≡ every_row_text)

-- ---- what is written

abbrev pub IsJsonOfPlan : TypedPlan → List ℕ → Type 0
IsJsonOfPlan typed text = IsJsonOf typed.types typed.residual typed.plan text

-- a JSON of the plan that is answered, or a front of one
abbrev pub WroteJson : Result TypedPlan RunFault → Option (List ℕ) → Option (List ℕ) → Type 0
WroteJson answer output output' = (typed : TypedPlan) × (answer ≡ Ok typed)
    × (text : List ℕ) × IsJsonOfPlan typed text × Appends output output' text

abbrev pub WroteJsonFront : Result TypedPlan RunFault → Option (List ℕ) → Option (List ℕ) → Type 0
WroteJsonFront answer output output' = (typed : TypedPlan) × (answer ≡ Ok typed)
    × (text : List ℕ) × IsJsonOfPlan typed text × AppendsFront output output' text

-- What a run gives, where this is the answer over files that tell their world: the JSON of the plan is written, or the
-- fault is the answer's, or one of reading at these paths in turn, of writing or of memory.
pub record AnswersInJson (answer : Result TypedPlan RunFault) (may_fail_at : List ℕ → Type 0) (write_may_fail : Type 0)
    (result : Result Unit RunFault) (output output' : Option (List ℕ)) : Type 0 where
  pub written : OnOk result (WroteJson answer output output')
  pub refused : IfErr result (MayEnd answer may_fail_at write_may_fail)
  pub front : IsErrOf result run.Write → WroteJsonFront answer output output'

-- what was written is a JSON of a plan that is so
abbrev pub WroteJsonThat : (TypedPlan → Type 0) → Option (List ℕ) → Option (List ℕ) → Type 0
WroteJsonThat so output output' = (typed : TypedPlan) × so typed × (text : List ℕ) × IsJsonOfPlan typed text
    × Appends output output' text

-- What was written, whatever the files tell of themselves: the JSON of a plan, and after a failed write a front of one.
pub record WritesJson (result : Result Unit RunFault) (output output' : Option (List ℕ)) : Type 0 where
  pub all : OnOk result ((typed : TypedPlan) × (text : List ℕ) × IsJsonOfPlan typed text × Appends output output' text)
  pub front : IsErrOf result run.Write → (typed : TypedPlan) × (text : List ℕ) × IsJsonOfPlan typed text
      × AppendsFront output output' text

-- ---- what it tells

-- The text is one line, and what a client reads of it is the plan: the path of each data file, in order, beside those
-- of the delete files that apply to it. (10 is the line feed.)
abbrev pub TellsPlan : List OwnedLine → List ℕ → Type 0
TellsPlan plan text = (line : List ℕ) × (text ≡ line ++ 10 ∷ [])
    × (option_and_then told (read line) ≡ Some (map paths_of plan))
