use Rattle.std.proofs.Common.{◌+◌, ◌<◌, arith, length}
use Rattle.icescan_print.proofs.Sends.{sent_less, sent_more}
use Rattle.icescan_json.proofs.TaskTexts.{references_split}
use Rattle.icescan_json.proofs.tasks.put_references.Goals as goal

pub returns-in_err-put : goal.returns-in_err-put
returns-in_err-put g c =
    let some : 0 < length c.args.positions.now + length c.args.equalities.now = omega arith in
    rw (references_split c.args.named.now c.args.positions.now c.args.equalities.now some)
    (sent_less _ _ _ _ _ _ _ _ _ _ _ c.from_residual.ensures.0 c.in_err-put.ensures)

pub returns-in_err-put_places : goal.returns-in_err-put_places
returns-in_err-put_places g c =
    let some : 0 < length c.args.positions.now + length c.args.equalities.now = omega arith in
    rw (references_split c.args.named.now c.args.positions.now c.args.equalities.now some)
    (sent_more _ _ _ _ _ _ _ _ _ _ _ _ c.in_ok-put.ensures
    (sent_less _ _ _ _ _ _ _ _ _ _ _ c.from_residual-in_err-put_places.ensures.0 c.in_err-put_places.ensures))

pub returns-in_err-put_places-2 : goal.returns-in_err-put_places-2
returns-in_err-put_places-2 g c =
    let some : 0 < length c.args.positions.now + length c.args.equalities.now = omega arith in
    rw (references_split c.args.named.now c.args.positions.now c.args.equalities.now some)
    (sent_more _ _ _ _ _ _ _ _ _ _ _ _ c.in_ok-put.ensures
    (sent_more _ _ _ _ _ _ _ _ _ _ _ _ c.in_ok-put_places.ensures
    (sent_less _ _ _ _ _ _ _ _ _ _ _ c.from_residual-in_err-put_places-2.ensures.0 c.in_err-put_places-2.ensures)))

pub returns : goal.returns
returns g c =
    let some : 0 < length c.args.positions.now + length c.args.equalities.now = omega arith in
    rw (references_split c.args.named.now c.args.positions.now c.args.equalities.now some)
    (sent_more _ _ _ _ _ _ _ _ _ _ _ _ c.in_ok-put.ensures
    (sent_more _ _ _ _ _ _ _ _ _ _ _ _ c.in_ok-put_places.ensures
    (sent_more _ _ _ _ _ _ _ _ _ _ _ _ c.in_ok-put_places-2.ensures c.put-2.ensures)))
