use Rattle.std.proofs.Common.{◌≡◌, ◌<◌, ◌∙◌, arith, ap, length, subst, sym, slice_get, Some}
use Rattle.icescan_print.proofs.Sends.{sent_less, sent_more}
use Rattle.icescan_json.proofs.TaskTexts.{length_listed, listed_at}
use Rattle.icescan_json.proofs.tasks.Tasks.put_listed.Goals as goal

pub put_task-requires-clause-there : goal.put_task-requires-clause-there
put_task-requires-clause-there g c =
    let t = c.self.inside in
    let many = length_listed t.types.now t.residual.now t.named.now t.plan.now c.self.invariant.placed in
    omega (arith, c.requires, ap length c.self.view_is, many)

pub returns-in_err-put : goal.returns-in_err-put
returns-in_err-put g c = λ text at.
    let t = c.self.inside in
    let many = length_listed t.types.now t.residual.now t.named.now t.plan.now c.self.invariant.placed in
    let l : c.args.i < length t.plan.now.files = omega (arith, c.requires, ap length c.self.view_is, many) in
    let k = listed_at t.types.now t.residual.now t.named.now t.plan.now c.args.i text c.self.invariant.placed l
    (subst (λ ts. slice_get ts c.args.i ≡ Some text) (sym c.self.view_is) at) in
    rw k.2 (sent_less _ _ _ _ _ _ _ _ _ _ _ c.from_residual.ensures.0
    (rw c.comma_before.ensures at c.in_err-put.ensures))

pub returns : goal.returns
returns g c = λ text at.
    let t = c.self.inside in
    let many = length_listed t.types.now t.residual.now t.named.now t.plan.now c.self.invariant.placed in
    let l : c.args.i < length t.plan.now.files = omega (arith, c.requires, ap length c.self.view_is, many) in
    let k = listed_at t.types.now t.residual.now t.named.now t.plan.now c.args.i text c.self.invariant.placed l
    (subst (λ ts. slice_get ts c.args.i ≡ Some text) (sym c.self.view_is) at) in
    rw k.2 (sent_more _ _ _ _ _ _ _ _ _ _ _ _ (rw c.comma_before.ensures at c.in_ok-put.ensures)
    (c.put_task.ensures k.0 k.1))
