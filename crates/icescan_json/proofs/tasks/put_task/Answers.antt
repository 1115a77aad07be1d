use Rattle.std.proofs.Common.{length}
use Rattle.icescan_print.proofs.Sends.{sent_less, sent_more}
use Rattle.icescan_json.proofs.Marks.{equalities_within, positions_within}
use Rattle.icescan_json.proofs.TaskTexts.{task_moved}
use Rattle.icescan_json.proofs.tasks.put_task.Goals as goal

pub put_references-requires-clause-positions : goal.put_references-requires-clause-positions
put_references-requires-clause-positions g c = rw c.requires.marked (positions_within (length c.args.plan.now.deletes)
    c.args.plan.now.places c.args.i c.positions-positions.result.now c.requires.placed.within
    c.positions-positions.ensures)

pub put_references-requires-clause-equalities : goal.put_references-requires-clause-equalities
put_references-requires-clause-equalities g c = rw c.requires.marked (equalities_within
    (length c.args.plan.now.deletes) c.args.plan.now.places c.args.i c.equalities-equalities.result.now
    c.requires.placed.within c.equalities-equalities.ensures)

pub returns-in_err-put : goal.returns-in_err-put
returns-in_err-put g c = λ text at. rw (task_moved c.args.types.now c.args.residual.now c.args.named.now
    c.args.plan.now.files c.args.plan.now.places c.args.i c.file-file.result
    c.positions-positions.result.now c.equalities-equalities.result.now text c.file-file.ensures
    c.positions-positions.ensures c.equalities-equalities.ensures at)
    (sent_less _ _ _ _ _ _ _ _ _ _ _ c.from_residual.ensures.0 c.in_err-put.ensures)

pub returns-in_err-put_data_file : goal.returns-in_err-put_data_file
returns-in_err-put_data_file g c = λ text at. rw (task_moved c.args.types.now c.args.residual.now c.args.named.now
    c.args.plan.now.files c.args.plan.now.places c.args.i c.file-file.result
    c.positions-positions.result.now c.equalities-equalities.result.now text c.file-file.ensures
    c.positions-positions.ensures c.equalities-equalities.ensures at)
    (sent_more _ _ _ _ _ _ _ _ _ _ _ _ c.in_ok-put.ensures
    (sent_less _ _ _ _ _ _ _ _ _ _ _ c.from_residual-in_err-put_data_file.ensures.0 c.in_err-put_data_file.ensures))

pub returns-in_err-put_references : goal.returns-in_err-put_references
returns-in_err-put_references g c = λ text at. rw (task_moved c.args.types.now c.args.residual.now c.args.named.now
    c.args.plan.now.files c.args.plan.now.places c.args.i c.file-file.result
    c.positions-positions.result.now c.equalities-equalities.result.now text c.file-file.ensures
    c.positions-positions.ensures c.equalities-equalities.ensures at)
    (sent_more _ _ _ _ _ _ _ _ _ _ _ _ c.in_ok-put.ensures
    (sent_more _ _ _ _ _ _ _ _ _ _ _ _ c.in_ok-put_data_file.ensures
    (sent_less _ _ _ _ _ _ _ _ _ _ _ c.from_residual-in_err-put_references.ensures.0 c.in_err-put_references.ensures)))

pub returns-in_err-put-2 : goal.returns-in_err-put-2
returns-in_err-put-2 g c = λ text at. rw (task_moved c.args.types.now c.args.residual.now c.args.named.now
    c.args.plan.now.files c.args.plan.now.places c.args.i c.file-file.result
    c.positions-positions.result.now c.equalities-equalities.result.now text c.file-file.ensures
    c.positions-positions.ensures c.equalities-equalities.ensures at)
    (sent_more _ _ _ _ _ _ _ _ _ _ _ _ c.in_ok-put.ensures
    (sent_more _ _ _ _ _ _ _ _ _ _ _ _ c.in_ok-put_data_file.ensures
    (sent_more _ _ _ _ _ _ _ _ _ _ _ _ c.in_ok-put_references.ensures
    (sent_less _ _ _ _ _ _ _ _ _ _ _ c.from_residual-in_err-put-2.ensures.0 c.in_err-put-2.ensures))))

pub returns-in_err-put-3 : goal.returns-in_err-put-3
returns-in_err-put-3 g c = λ text at. rw (task_moved c.args.types.now c.args.residual.now c.args.named.now
    c.args.plan.now.files c.args.plan.now.places c.args.i c.file-file.result
    c.positions-positions.result.now c.equalities-equalities.result.now text c.file-file.ensures
    c.positions-positions.ensures c.equalities-equalities.ensures at)
    (sent_more _ _ _ _ _ _ _ _ _ _ _ _ c.in_ok-put.ensures
    (sent_more _ _ _ _ _ _ _ _ _ _ _ _ c.in_ok-put_data_file.ensures
    (sent_more _ _ _ _ _ _ _ _ _ _ _ _ c.in_ok-put_references.ensures
    (sent_more _ _ _ _ _ _ _ _ _ _ _ _ c.in_ok-put-2.ensures
    (sent_less _ _ _ _ _ _ _ _ _ _ _ c.from_residual-in_err-put-3.ensures.0 c.in_err-put-3.ensures)))))

pub returns : goal.returns
returns g c = λ text at. rw (task_moved c.args.types.now c.args.residual.now c.args.named.now
    c.args.plan.now.files c.args.plan.now.places c.args.i c.file-file.result
    c.positions-positions.result.now c.equalities-equalities.result.now text c.file-file.ensures
    c.positions-positions.ensures c.equalities-equalities.ensures at)
    (sent_more _ _ _ _ _ _ _ _ _ _ _ _ c.in_ok-put.ensures
    (sent_more _ _ _ _ _ _ _ _ _ _ _ _ c.in_ok-put_data_file.ensures
    (sent_more _ _ _ _ _ _ _ _ _ _ _ _ c.in_ok-put_references.ensures
    (sent_more _ _ _ _ _ _ _ _ _ _ _ _ c.in_ok-put-2.ensures
    (sent_more _ _ _ _ _ _ _ _ _ _ _ _ c.in_ok-put-3.ensures
    c.put-4.ensures)))))
