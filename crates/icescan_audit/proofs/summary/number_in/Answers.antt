use Rattle.icescan_audit.proofs.Numerals.{none_read, number_read}
use Rattle.icescan_audit.proofs.summary.number_in.Goals as goal

pub returns-in-Ok : goal.returns-in-Ok
returns-in-Ok c =
    let read = c.in-Ok.ensures.value.0 in
    number_read c.args.text.now c.in-Ok.number read.0 read.1

pub returns-in-Err : goal.returns-in-Err
returns-in-Err c = none_read c.args.text.now c.in-Err.ensures.value.0
