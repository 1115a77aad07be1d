use Rattle.icescan_print.specs.TableTexts.{table_text}
use Rattle.icescan_print.proofs.Sends.{sent_more, sent_less}
use Rattle.icescan_print.proofs.table_text.put_table.Goals as goal

pub returns-in_err-put_head : goal.returns-in_err-put_head
unfolding table_text
returns-in_err-put_head g c = sent_less _ _ _ _ _ _ _ _ _ _ _ c.from_residual.ensures.0 c.in_err-put_head.ensures

pub returns-in_err-put_lines : goal.returns-in_err-put_lines
unfolding table_text
returns-in_err-put_lines g c =
    sent_more _ _ _ _ _ _ _ _ _ _ _ _ c.in_ok-put_head.ensures
    (sent_less _ _ _ _ _ _ _ _ _ _ _ c.from_residual-in_err-put_lines.ensures.0
    (rw (c.deref.ensures.value, c.requires.schemas) at c.in_err-put_lines.ensures))

pub returns-in_err-put_lines-2 : goal.returns-in_err-put_lines-2
unfolding table_text
returns-in_err-put_lines-2 g c =
    sent_more _ _ _ _ _ _ _ _ _ _ _ _ c.in_ok-put_head.ensures
    (sent_more _ _ _ _ _ _ _ _ _ _ _ _ (rw (c.deref.ensures.value, c.requires.schemas) at c.in_ok-put_lines.ensures)
    (sent_less _ _ _ _ _ _ _ _ _ _ _ c.from_residual-in_err-put_lines-2.ensures.0
    (rw (c.deref-2.ensures.value, c.requires.specs) at c.in_err-put_lines-2.ensures)))

pub returns-in_err-put_lines-3 : goal.returns-in_err-put_lines-3
unfolding table_text
returns-in_err-put_lines-3 g c =
    sent_more _ _ _ _ _ _ _ _ _ _ _ _ c.in_ok-put_head.ensures
    (sent_more _ _ _ _ _ _ _ _ _ _ _ _ (rw (c.deref.ensures.value, c.requires.schemas) at c.in_ok-put_lines.ensures)
    (sent_more _ _ _ _ _ _ _ _ _ _ _ _ (rw (c.deref-2.ensures.value, c.requires.specs) at c.in_ok-put_lines-2.ensures)
    (sent_less _ _ _ _ _ _ _ _ _ _ _ c.from_residual-in_err-put_lines-3.ensures.0
    (rw (c.deref-3.ensures.value, c.requires.snapshots) at c.in_err-put_lines-3.ensures))))

pub returns : goal.returns
unfolding table_text
returns g c =
    sent_more _ _ _ _ _ _ _ _ _ _ _ _ c.in_ok-put_head.ensures
    (sent_more _ _ _ _ _ _ _ _ _ _ _ _ (rw (c.deref.ensures.value, c.requires.schemas) at c.in_ok-put_lines.ensures)
    (sent_more _ _ _ _ _ _ _ _ _ _ _ _ (rw (c.deref-2.ensures.value, c.requires.specs) at c.in_ok-put_lines-2.ensures)
    (sent_more _ _ _ _ _ _ _ _ _ _ _ _ (rw (c.deref-3.ensures.value, c.requires.snapshots) at
    c.in_ok-put_lines-3.ensures) (rw (c.deref-4.ensures.value, c.requires.refs) at c.put_lines-4.ensures))))
