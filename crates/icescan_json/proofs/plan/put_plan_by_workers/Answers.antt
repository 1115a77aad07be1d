use Rattle.std.proofs.Common.{◌≡◌, ◌∙◌, ap}
use Rattle.std.specs.List.{concat}
use Rattle.icescan_print.proofs.Sends.{sent_less, sent_more}
use Rattle.icescan_json.specs.Named.{narrowed}
use Rattle.icescan_json.specs.Texts.{tasks_text}
use Rattle.icescan_json.proofs.TaskTexts.{plan_cut, tasks_joined}
use Rattle.icescan_json.proofs.plan.put_plan_by_workers.Goals as goal

pub returns-in_err-put_front : goal.returns-in_err-put_front
returns-in_err-put_front g c =
    rw (plan_cut c.args.types.now c.args.residual.now (narrowed c.args.named.now c.args.plan.now))
    (sent_less _ _ _ _ _ _ _ _ _ _ _ c.from_residual.ensures.0 c.in_err-put_front.ensures)

pub returns-in_err-put_list_by_workers : goal.returns-in_err-put_list_by_workers
returns-in_err-put_list_by_workers g c =
    let p = narrowed c.args.named.now c.args.plan.now in
    let whole : concat c.new-tasks.result ≡ tasks_text c.args.types.now c.args.residual.now p =
    ap concat c.new-tasks.ensures ∙ tasks_joined c.args.types.now c.args.residual.now p in
    rw (plan_cut c.args.types.now c.args.residual.now p) (sent_more _ _ _ _ _ _ _ _ _ _ _ _ c.in_ok-put_front.ensures
    (sent_less _ _ _ _ _ _ _ _ _ _ _ c.from_residual-in_err-put_list_by_workers.ensures.0
    (rw whole at c.in_err-put_list_by_workers.ensures)))

pub returns : goal.returns
returns g c =
    let p = narrowed c.args.named.now c.args.plan.now in
    let whole : concat c.new-tasks.result ≡ tasks_text c.args.types.now c.args.residual.now p =
    ap concat c.new-tasks.ensures ∙ tasks_joined c.args.types.now c.args.residual.now p in
    rw (plan_cut c.args.types.now c.args.residual.now p) (sent_more _ _ _ _ _ _ _ _ _ _ _ _ c.in_ok-put_front.ensures
    (sent_more _ _ _ _ _ _ _ _ _ _ _ _ (rw whole at c.in_ok-put_list_by_workers.ensures) c.put.ensures))
