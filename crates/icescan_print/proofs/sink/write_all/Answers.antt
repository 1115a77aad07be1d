use Rattle.std.proofs.Common.{arith}
use Rattle.icescan_print.proofs.Writes.{appends_more}
use Rattle.icescan_print.proofs.sink.write_all.Goals as goal

pub loop-done-preserved : goal.loop-done-preserved
loop-done-preserved g c =
    record {
      within = omega (arith, c.in_ok-count.ensures.count);
      front = appends_more _ _ _ _ c.loop-done.done c.in_ok-count.count c.loop-done.invariant.front
          c.in_ok-count.ensures.took;
      still = λ m. c.loop-done.invariant.still (c.write.ensures.still m);
    }
