use Rattle.icescan_print.specs.TableTexts.{snapshot_line}
use Rattle.icescan_print.proofs.Sends.{sent_more, sent_less}
use Rattle.icescan_print.proofs.table_lines.SnapshotTableLine.put_line.Goals as goal

pub returns-in_err-put_change : goal.returns-in_err-put_change
unfolding snapshot_line
returns-in_err-put_change g c = sent_less _ _ _ _ _ _ _ _ _ _ _ c.from_residual.ensures.0 c.in_err-put_change.ensures

pub returns-in_err-put_origin : goal.returns-in_err-put_origin
unfolding snapshot_line
returns-in_err-put_origin g c = sent_more _ _ _ _ _ _ _ _ _ _ _ _ c.in_ok-put_change.ensures (sent_less _ _ _ _ _ _ _ _
    _ _ _ c.from_residual-in_err-put_origin.ensures.0 c.in_err-put_origin.ensures)

pub returns : goal.returns
unfolding snapshot_line
returns g c = sent_more _ _ _ _ _ _ _ _ _ _ _ _ c.in_ok-put_change.ensures (sent_more _ _ _ _ _ _ _ _ _ _ _ _
    c.in_ok-put_origin.ensures c.put.ensures)
