use Rattle.std.proofs.Common.{arith}
use Rattle.icescan_files.proofs.DigitValues.{both_at_once}
use Rattle.icescan_files.proofs.digits.byte_of.Goals as goal

pub overflow_cast-result : goal.overflow_cast-result
overflow_cast-result c =
    let once = both_at_once c.args.high c.args.low c.requires.high c.requires.low in
    omega (arith, once.1)

pub returns : goal.returns
returns c = (both_at_once c.args.high c.args.low c.requires.high c.requires.low).0
