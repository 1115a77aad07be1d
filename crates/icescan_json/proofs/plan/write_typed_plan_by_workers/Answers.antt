use Rattle.std.proofs.Common.{◌∙◌, ap, length}
use Rattle.icescan_print.proofs.Sends.{wrote_all_sent}
use Rattle.icescan_json.specs.Named.{narrowed}
use Rattle.icescan_json.specs.Texts.{plan_text}
use Rattle.icescan_json.proofs.Marks.{length_marks_of}
use Rattle.icescan_json.proofs.Narrowed.{says_named}
use Rattle.icescan_json.proofs.plan.write_typed_plan_by_workers.Goals as goal

pub put_plan_by_workers-requires-clause-marked : goal.put_plan_by_workers-requires-clause-marked
put_plan_by_workers-requires-clause-marked g c κs within =
    ap length c.in_ok-named.ensures ∙ length_marks_of c.placed_files-plan.result

pub returns-in_err-flush-clause-front : goal.returns-in_err-flush-clause-front
returns-in_err-flush-clause-front g c =
    let text = plan_text c.args.types.now c.args.residual.now
    (narrowed c.in_ok-named.named c.placed_files-plan.result) in
    let said = says_named c.args.types.now c.args.residual.now c.as_bytes.ensures.json
    c.placed_files-plan.result c.in_ok-named.named c.in_ok-named.ensures c.args.lines.now
    c.placed_files-plan.ensures.same c.placed_files-plan.ensures.placed in
    let sent = rw (c.in_ok-page.ensures, c.as_bytes.ensures.text) at c.in_ok-put_plan_by_workers.ensures in
    λ is. (text, said, (wrote_all_sent _ _ _ _ _ _ _ _ _ sent c.in_err-flush.ensures.wrote).front)

pub returns-clause-all : goal.returns-clause-all
returns-clause-all g c =
    let text = plan_text c.args.types.now c.args.residual.now
    (narrowed c.in_ok-named.named c.placed_files-plan.result) in
    let said = says_named c.args.types.now c.args.residual.now c.as_bytes.ensures.json
    c.placed_files-plan.result c.in_ok-named.named c.in_ok-named.ensures c.args.lines.now
    c.placed_files-plan.ensures.same c.placed_files-plan.ensures.placed in
    let sent = rw (c.in_ok-page.ensures, c.as_bytes.ensures.text) at c.in_ok-put_plan_by_workers.ensures in
    (text, said, (wrote_all_sent _ _ _ _ _ _ _ _ _ sent c.in_ok-flush.ensures.wrote).all)

pub returns-in_err-put_plan_by_workers-clause-front : goal.returns-in_err-put_plan_by_workers-clause-front
returns-in_err-put_plan_by_workers-clause-front g c =
    let text = plan_text c.args.types.now c.args.residual.now
    (narrowed c.in_ok-named.named c.placed_files-plan.result) in
    let said = says_named c.args.types.now c.args.residual.now c.as_bytes.ensures.json
    c.placed_files-plan.result c.in_ok-named.named c.in_ok-named.ensures c.args.lines.now
    c.placed_files-plan.ensures.same c.placed_files-plan.ensures.placed in
    let sent = rw (c.in_ok-page.ensures, c.as_bytes.ensures.text) at c.in_err-put_plan_by_workers.ensures in
    λ is. (text, said, sent.front)
