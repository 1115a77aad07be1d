use Rattle.std.proofs.Common.{arith}
use Rattle.std.proofs.lemmas.List.{take_rest}
use Rattle.icescan_print.proofs.Writes.{escaped_split, escaped_more}
use Rattle.icescan_print.proofs.Sends.{sent_more, sent_fails, sent_none}
use Rattle.icescan_print.proofs.page.Page.put_fronts.Goals as goal

pub loop-done-init : goal.loop-done-init
loop-done-init g c = record { within = omega arith; sent = sent_none _ _ _ _ _ }

pub returns-in_err-done : goal.returns-in_err-done
returns-in_err-done g c =
    let failed = rw (take_rest c.args.bytes.now c.loop-done.done) at c.in_err-done.ensures.err in
    rw (escaped_split c.args.bytes.now c.loop-done.done) (sent_more _ _ _ _ _ _ _ _ _ _ _ _ c.loop-done.invariant.sent
    (sent_fails _ _ _ _ _ _ _ _ _ _ c.from_residual.ensures.0 failed))

pub loop-done-preserved : goal.loop-done-preserved
loop-done-preserved g c =
    let sent = rw (take_rest c.args.bytes.now c.loop-done.done) at c.in_ok-done.ensures.ok in
    record {
      within = omega (arith, c.in_ok-done.ensures.within);
      sent = rw (escaped_more c.args.bytes.now c.loop-done.done c.in_ok-done.field-0) (sent_more _ _ _ _ _ _ _ _ _ _ _ _
          c.loop-done.invariant.sent sent);
    }
