-- What is told as JSON.
use Rattle.std.specs.Prelude.{◌≡◌, ℕ, List, Ok}
use Rattle.ice_state.specs.Lines.{OwnedLine}
use Rattle.icescan_json.specs.Expressions.{asked_text}
use Rattle.icescan_json.specs.Texts.{IsJsonOf}
use Rattle.icescan_json.specs.declared.types.SpecTypes.{SpecTypes}
use Rattle.icescan_text.specs.declared.fault.RunFault.{RunFault}
use Rattle.icescan_text.specs.declared.fault.RunFault.TheVariants as run
use Rattle.icescan_text.specs.declared.request.Request.{Request}

-- memory can't be written where it can't grow
abbrev pub as_memory : RunFault → RunFault
as_memory run.Write = run.Memory
as_memory fault = fault

-- the JSON of a plan, with the filter that the request asks of the table whose metadata these are the bytes of
abbrev pub IsJsonOfAsked : List ℕ → Request → List SpecTypes → List OwnedLine → List ℕ → Type 0
IsJsonOfAsked metadata request types plan text =
    (residual : List ℕ) × (asked_text metadata request ≡ Ok residual) × IsJsonOf types residual plan text
