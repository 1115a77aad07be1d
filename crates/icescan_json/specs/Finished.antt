-- The plan of states as JSON.
use Rattle.std.specs.Prelude.{◌≡◌, ℕ, List, map, Option, Some, Ok}
use Rattle.ice_desk.specs.Given.{Giving}
use Rattle.icescan_json.specs.Expressions.{asked_text}
use Rattle.icescan_json.specs.JsonAnswers.{WroteJsonThat}
use Rattle.icescan_json.specs.Types.{spec_types}
use Rattle.icescan_json.specs.declared.typed.TypedPlan.{TypedPlan}
use Rattle.icescan_requests.specs.Selections.{selected}
use Rattle.icescan_requests.specs.declared.selection.Selection.{Selection}
use Rattle.icescan_shares.specs.Given.{IsPlanOfStates}
use Rattle.icescan_text.specs.declared.request.Request.{Request}

-- the plan of the states at these paths, with the types of the table's specs and the request's filter
pub record IsTypedOfStates (gives kept : Giving) (metadata : List ℕ) (request : Request) (paths : List (List ℕ))
    (typed : TypedPlan) : Type 0 where
  pub planned : IsPlanOfStates gives kept metadata request paths typed.plan
  pub selection : Selection
  pub asked : selected metadata request ≡ Ok selection
  pub types_are : typed.types ≡ map spec_types selection.specs
  pub residual_is : asked_text metadata request ≡ Ok typed.residual

-- a JSON of such a plan was written, of metadata that a read of the path gave
abbrev pub WroteJsonOfStates : Giving → Giving → List ℕ → Request → List (List ℕ) → Option (List ℕ)
    → Option (List ℕ) → Type 0
WroteJsonOfStates gives kept path request paths output output' = (metadata : List ℕ) × gives path (Some metadata)
    × WroteJsonThat (IsTypedOfStates gives kept metadata request paths) output output'
