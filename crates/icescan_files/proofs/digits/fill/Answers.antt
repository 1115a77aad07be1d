use Rattle.std.proofs.Common.{arith}
use Rattle.icescan_files.proofs.DigitValues.{all_are_read, one_more}
use Rattle.icescan_files.proofs.digits.fill.Goals as goal

pub bytes-preserved : goal.bytes-preserved
bytes-preserved c =
    one_more c.args.digits.now c.bytes.room c.bytes.at c.byte_of.result (omega arith) (omega arith) c.byte_of.ensures
    c.bytes.invariant

pub returns : goal.returns
returns c = all_are_read c.args.digits.now c.bytes.room c.bytes.at (omega arith) (omega arith) c.bytes.invariant
