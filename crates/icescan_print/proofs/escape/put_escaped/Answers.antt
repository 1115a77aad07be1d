use Rattle.std.proofs.Common.{arith}
use Rattle.std.proofs.lemmas.List.{take_rest}
use Rattle.icescan_print.proofs.Writes.{wrote_more, wrote_fails, escaped_split, escaped_more}
use Rattle.icescan_print.proofs.escape.put_escaped.Goals as goal

pub returns-in_err-done : goal.returns-in_err-done
returns-in_err-done g c =
    let failed = rw (take_rest c.args.bytes.now c.loop-done.done) at c.in_err-done.ensures.err in
    rw (escaped_split c.args.bytes.now c.loop-done.done) (wrote_more _ _ _ _ _ _ _ _ _ c.loop-done.invariant.wrote
    (wrote_fails _ _ _ _ _ _ _ c.from_residual.ensures.0 failed))

pub loop-done-preserved : goal.loop-done-preserved
loop-done-preserved g c =
    let wrote = rw (take_rest c.args.bytes.now c.loop-done.done) at c.in_ok-done.ensures.ok in
    record {
      within = omega (arith, c.in_ok-done.ensures.within);
      wrote = rw (escaped_more c.args.bytes.now c.loop-done.done c.in_ok-done.field-0) (wrote_more _ _ _ _ _ _ _ _ _
          c.loop-done.invariant.wrote wrote);
    }
