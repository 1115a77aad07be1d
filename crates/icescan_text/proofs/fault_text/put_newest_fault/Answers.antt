use Rattle.icescan_print.proofs.Writes.{wrote_more, wrote_less}
use Rattle.icescan_text.specs.FaultTexts.{newest_text}
use Rattle.icescan_text.proofs.fault_text.put_newest_fault.Goals as goal

pub returns-in-NoFolder : goal.returns-in-NoFolder
unfolding newest_text
returns-in-NoFolder g c = rw c.in-NoFolder.is c.write_all.ensures

pub returns-in_err-put_named_path-in-TwoOfOneNumber : goal.returns-in_err-put_named_path-in-TwoOfOneNumber
unfolding newest_text
returns-in_err-put_named_path-in-TwoOfOneNumber g c =
    rw c.in-TwoOfOneNumber.is (wrote_less _ _ _ _ _ _ _ _ c.from_residual.ensures.0
    (rw c.as_bytes.ensures at c.in_err-put_named_path-in-TwoOfOneNumber.ensures))

pub returns-in_ok-put_named_path-in-TwoOfOneNumber : goal.returns-in_ok-put_named_path-in-TwoOfOneNumber
unfolding newest_text
returns-in_ok-put_named_path-in-TwoOfOneNumber g c =
    rw c.in-TwoOfOneNumber.is (wrote_more _ _ _ _ _ _ _ _ _
    (rw c.as_bytes.ensures at c.in_ok-put_named_path-in-TwoOfOneNumber.ensures)
    (rw c.as_bytes-in-TwoOfOneNumber.ensures at c.put_named_path-in-TwoOfOneNumber.ensures))

pub returns-in-Memory : goal.returns-in-Memory
unfolding newest_text
returns-in-Memory g c = rw c.in-Memory.is c.write_all-in-Memory.ensures
