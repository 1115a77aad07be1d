use Rattle.std.proofs.Common.{◌≡◌, ◌≤◌, ◌∙◌, ap, arith, length}
use Rattle.icescan_print.specs.Ranges.{range_text}
use Rattle.icescan_print.proofs.Sends.{sent_less, sent_more}
use Rattle.icescan_json.specs.Named.{narrowed}
use Rattle.icescan_json.specs.Texts.{listed_tasks, tasks_text}
use Rattle.icescan_json.proofs.TaskTexts.{plan_cut, tasks_whole}
use Rattle.icescan_json.proofs.plan.put_plan.Goals as goal

pub returns-in_err-put_front : goal.returns-in_err-put_front
returns-in_err-put_front g c =
    rw (plan_cut c.args.types.now c.args.residual.now (narrowed c.args.named.now c.args.plan.now))
    (sent_less _ _ _ _ _ _ _ _ _ _ _ c.from_residual.ensures.0 c.in_err-put_front.ensures)

pub returns-in_err-put_range : goal.returns-in_err-put_range
returns-in_err-put_range g c =
    let p = narrowed c.args.named.now c.args.plan.now in
    let texts = listed_tasks c.args.types.now c.args.residual.now p in
    let few : length texts ≤ c.count.result = omega (arith, c.count.ensures.counted, ap length c.new-tasks.ensures) in
    let whole : range_text c.new-tasks.result 0 c.count.result ≡ tasks_text c.args.types.now c.args.residual.now p =
    ap (λ ts. range_text ts 0 c.count.result) c.new-tasks.ensures
    ∙ tasks_whole c.args.types.now c.args.residual.now p c.count.result few in
    rw (plan_cut c.args.types.now c.args.residual.now p) (sent_more _ _ _ _ _ _ _ _ _ _ _ _ c.in_ok-put_front.ensures
    (sent_less _ _ _ _ _ _ _ _ _ _ _ c.from_residual-in_err-put_range.ensures.0
    (rw whole at c.in_err-put_range.ensures)))

pub returns : goal.returns
returns g c =
    let p = narrowed c.args.named.now c.args.plan.now in
    let texts = listed_tasks c.args.types.now c.args.residual.now p in
    let few : length texts ≤ c.count.result = omega (arith, c.count.ensures.counted, ap length c.new-tasks.ensures) in
    let whole : range_text c.new-tasks.result 0 c.count.result ≡ tasks_text c.args.types.now c.args.residual.now p =
    ap (λ ts. range_text ts 0 c.count.result) c.new-tasks.ensures
    ∙ tasks_whole c.args.types.now c.args.residual.now p c.count.result few in
    rw (plan_cut c.args.types.now c.args.residual.now p) (sent_more _ _ _ _ _ _ _ _ _ _ _ _ c.in_ok-put_front.ensures
    (sent_more _ _ _ _ _ _ _ _ _ _ _ _ (rw whole at c.in_ok-put_range.ensures) c.put.ensures))
