use Rattle.std.proofs.Common.{◌≡◌, ◌++◌, ap, refl, ◌∙◌}
use Rattle.std.specs.FinMap.{get}
use Rattle.std.specs.Prelude.{Ok, Err}
use Rattle.ice_state.specs.Contents.{World}
use Rattle.icescan_c_requests.specs.Texts.{as_memory}
use Rattle.icescan_explain.specs.Explanations.{explained}
use Rattle.icescan_explain.specs.JsonLines.{explanation_objects}
use Rattle.icescan_c_explanations.specs.Handed.{told_in}
use Rattle.icescan_c_explanations.proofs.Endings.{ends}
use Rattle.icescan_c_explanations.proofs.handed.HandedExplanation.into_json.Goals as goal

pub returns-in-Ok : goal.returns-in-Ok
unfolding told_in
returns-in-Ok c =
    let world : World = λ path. get c.args.self.files.kept path in
    let wrote = c.in-Ok.ensures.written world refl in
    let all = wrote.2 in
    let text : c.run_explain.new.output.items ≡ c.new-text.result.items ++ explanation_objects wrote.0 = cc in
    let is : explained world c.args.self.metadata c.args.self.request ≡ Ok wrote.0 = rw c.as_slice.ensures at wrote.1 in
    rw (is, c.from_vec.ensures, text, c.new-text.ensures.items) refl

pub returns : goal.returns
unfolding told_in
returns c memory =
    let world : World = λ path. get c.args.self.files.kept path in
    let none = ends (explained world c.as_slice.result.now c.args.self.request) _ _ c.in-Err.fault
    (c.in-Err.ensures.refused world refl) (λ path is. c.in-Err.ensures.refusal.device path (ap Err is))
    (λ is. memory (c.as_memory.ensures ∙ ap as_memory is)) (λ is. memory (c.as_memory.ensures ∙ ap as_memory is)) in
    let is : explained world c.args.self.metadata c.args.self.request ≡ Err (as_memory c.in-Err.fault) =
    rw c.as_slice.ensures at none in
    rw (is, c.as_memory.ensures) refl
