use Rattle.icescan_print.proofs.Writes.{wrote_more, wrote_less}
use Rattle.icescan_text.specs.FaultTexts.{finish_text}
use Rattle.icescan_text.proofs.fault_text.put_finish_fault.Goals as goal

pub returns-in_err-put_named_path-in-Bad : goal.returns-in_err-put_named_path-in-Bad
unfolding finish_text
returns-in_err-put_named_path-in-Bad g c = rw c.in-Bad.is (wrote_less _ _ _ _ _ _ _ _ c.from_residual.ensures.0
    (rw c.as_bytes-in-Bad.ensures at c.in_err-put_named_path-in-Bad.ensures))

pub returns-in_err-write_all-in-Bad : goal.returns-in_err-write_all-in-Bad
unfolding finish_text
returns-in_err-write_all-in-Bad g c = rw c.in-Bad.is (wrote_more _ _ _ _ _ _ _ _ _ (rw c.as_bytes-in-Bad.ensures at
    c.in_ok-put_named_path-in-Bad.ensures) (wrote_less _ _ _ _ _ _ _ _ c.from_residual-in_err-write_all-in-Bad.ensures.0
    c.in_err-write_all-in-Bad.ensures))

pub returns-in_ok-write_all-in-Bad : goal.returns-in_ok-write_all-in-Bad
unfolding finish_text
returns-in_ok-write_all-in-Bad g c = rw c.in-Bad.is (wrote_more _ _ _ _ _ _ _ _ _ (rw c.as_bytes-in-Bad.ensures at
    c.in_ok-put_named_path-in-Bad.ensures) (wrote_more _ _ _ _ _ _ _ _ _ c.in_ok-write_all-in-Bad.ensures
    c.put_manifest_fault.ensures))

pub returns-in-PathTwice : goal.returns-in-PathTwice
unfolding finish_text
returns-in-PathTwice g c = rw c.in-PathTwice.is (rw c.as_slice.ensures at c.put_named_path-in-PathTwice.ensures)
