use Rattle.icescan_print.proofs.Writes.{wrote_more, wrote_less}
use Rattle.icescan_text.specs.FaultTexts.{change_text}
use Rattle.icescan_text.proofs.fault_text.put_change_fault.Goals as goal

pub returns-in-NotJson : goal.returns-in-NotJson
unfolding change_text
returns-in-NotJson g c = rw c.in-NotJson.is c.write_all.ensures

pub returns-in_err-write_all-in-Bad : goal.returns-in_err-write_all-in-Bad
unfolding change_text
returns-in_err-write_all-in-Bad g c = rw c.in-Bad.is (wrote_less _ _ _ _ _ _ _ _ c.from_residual.ensures.0
    c.in_err-write_all-in-Bad.ensures)

pub returns-in_ok-write_all-in-Bad : goal.returns-in_ok-write_all-in-Bad
unfolding change_text
returns-in_ok-write_all-in-Bad g c =
    rw c.in-Bad.is (wrote_more _ _ _ _ _ _ _ _ _ c.in_ok-write_all-in-Bad.ensures
    (rw (c.as_bytes.ensures.value, c.name.ensures) at c.write_all-in-Bad-2.ensures))
