use Rattle.std.proofs.Common.{◌≤◌, arith}
use mir.Val.{bool_byte}
use Rattle.icescan_explain.proofs.Counted.{byte_at_most}
use Rattle.icescan_explain.proofs.Ranges.{count_more}
use Rattle.icescan_explain.proofs.by_workers.count_wanted.Goals as goal

pub rows-preserved : goal.rows-preserved
rows-preserved c =
    let byte : bool_byte c.is_wanted.result ≤ 1 = byte_at_most c.is_wanted.result in
    record {
      counted = rw c.is_wanted.ensures
          (count_more c.args.tests.now c.args.rows.now c.rows.row-index c.row-item.result c.rows.count c.rows-test.true
          c.row-item.is c.rows.invariant.counted);
      few = omega (arith, byte, c.rows.invariant.few);
    }
