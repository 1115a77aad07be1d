use Rattle.icescan_print.proofs.Writes.{wrote_more, wrote_less}
use Rattle.icescan_text.specs.FaultTexts.{line_text}
use Rattle.icescan_text.proofs.fault_text.put_line.Goals as goal

pub returns-in_err-write_all : goal.returns-in_err-write_all
unfolding line_text
returns-in_err-write_all g c = wrote_less _ _ _ _ _ _ _ _ c.from_residual.ensures.0 c.in_err-write_all.ensures

pub returns-in_err-put_run_fault : goal.returns-in_err-put_run_fault
unfolding line_text
returns-in_err-put_run_fault g c = wrote_more _ _ _ _ _ _ _ _ _ c.in_ok-write_all.ensures (wrote_less _ _ _ _ _ _ _ _
    c.from_residual-in_err-put_run_fault.ensures.0 c.in_err-put_run_fault.ensures)

pub returns : goal.returns
unfolding line_text
returns g c = wrote_more _ _ _ _ _ _ _ _ _ c.in_ok-write_all.ensures (wrote_more _ _ _ _ _ _ _ _ _
    c.in_ok-put_run_fault.ensures c.write_all-2.ensures)
