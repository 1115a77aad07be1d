use Rattle.std.proofs.Common.{[], w32, rules}
use Rattle.std.proofs.lemmas.Int.{to_z-of_z}
use Rattle.std.proofs.lemmas.Result.{err_from_is_err_and}
use Rattle.ice_state_sections.specs.Parts.{behind, int}
use Rattle.ice_state_sections.proofs.Loops.{goes_on, ends, is_done}
use Rattle.ice_state_sections.proofs.values.ids_of_count.Goals as goal

pub returns-in_err-id : goal.returns-in_err-id
returns-in_err-id c =
    let p = err_from_is_err_and c.from_residual.result c.from_residual.ensures.1 in
    rw (p.1, p.2) (λ _. ends (λ _. int) c.ids.ids c.args.count c.ids.counter c.ids.rest.now c.in_err-id.field-0.0
    (behind (λ _. int) c.args.count [] c.args.bytes.now) c.ids-test.true c.in_err-id.ensures c.ids.invariant)

pub ids-preserved : goal.ids-preserved
ids-preserved c = rw (c.in_ok-push.ensures.ok, to_z-of_z w32 c.in_ok-id.id (search rules)) (goes_on
    (λ _. int) c.ids.ids c.args.count c.ids.counter
    c.ids.rest.now c.in_ok-id.id c.in_ok-id.after.now (behind (λ _. int) c.args.count [] c.args.bytes.now)
    c.ids-test.true c.in_ok-id.ensures c.ids.invariant)

pub returns : goal.returns
returns c = is_done (λ _. int) c.ids.ids c.args.count c.ids.counter c.ids.rest.now
    (behind (λ _. int) c.args.count [] c.args.bytes.now) c.ids-test.false c.ids.invariant
