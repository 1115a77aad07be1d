use Rattle.std.proofs.Common.{◌<◌, arith, get_or, length}
use Rattle.serde_json.specs.Written.{compact_text}
use Rattle.ice_value.specs.declared.cell.Cell.TheVariants.{Null}
use Rattle.icescan_json.specs.Values.{cell_json, type_at}
use Rattle.icescan_print.proofs.Sends.{sent_more, stands_at}
use Rattle.icescan_forms.proofs.Lists.{there, sent_next, sent_stops, comma_failed}
use Rattle.icescan_json.proofs.values.put_cells.Goals as goal

pub returns-in_err-put : goal.returns-in_err-put
returns-in_err-put g c =
    let cells = c.args.cells.now in
    let i = c.loop-i.i in
    let l : i < length cells = omega arith in
    comma_failed _ _ (λ i x. compact_text (cell_json (type_at c.args.types.now i) x)) cells i (get_or cells i Null)
    (there cells i Null l) _ _ _ _ _ _ _ _ _ c.from_residual.ensures.0 c.loop-i.invariant
    (rw c.comma_before.ensures at c.in_err-put.ensures)

pub returns-in_err-put_cell : goal.returns-in_err-put_cell
returns-in_err-put_cell g c =
    let cells = c.args.cells.now in
    let i = c.loop-i.i in
    let l : i < length cells = omega arith in
    sent_stops _ _ (λ i x. compact_text (cell_json (type_at c.args.types.now i) x)) cells i c.index-cells-i.result
    (stands_at cells i c.index-cells-i.result l c.index-cells-i.is)
    _ _ _ _ _ _ _ _ _ c.from_residual-in_err-put_cell.ensures.0 c.loop-i.invariant
    (sent_more _ _ _ _ _ _ _ _ _ _ _ _ (rw c.comma_before.ensures at c.in_ok-put.ensures)
    (rw c.type_at.ensures at c.in_err-put_cell.ensures))

pub loop-i-preserved : goal.loop-i-preserved
loop-i-preserved g c =
    let cells = c.args.cells.now in
    let i = c.loop-i.i in
    let l : i < length cells = omega arith in
    sent_next _ _ (λ i x. compact_text (cell_json (type_at c.args.types.now i) x)) cells i c.index-cells-i.result
    (stands_at cells i c.index-cells-i.result l c.index-cells-i.is)
    _ _ _ _ _ _ _ _ c.loop-i.invariant
    (sent_more _ _ _ _ _ _ _ _ _ _ _ _ (rw c.comma_before.ensures at c.in_ok-put.ensures)
    (rw c.type_at.ensures at c.in_ok-put_cell.ensures))
