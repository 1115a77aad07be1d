use Rattle.std.proofs.Common.{◌≤◌, ◌-◌, length, take, Ok}
use Rattle.icescan_print.specs.Escaping.{escaped}
use Rattle.icescan_print.specs.Written.{Wrote}
use Rattle.icescan_print.proofs.escape.put_escaped.Given as goal

-- what was written so far are the bytes so far
abbrev pub invariant-loop-done : goal.invariant-loop-done
invariant-loop-done g l = record {
  within : l.done ≤ length l.bytes;
  wrote : Wrote g.S.Sink.taken g.S.Sink.may_fail l.fn.sink (Ok tt) l.sink (escaped (take l.done l.bytes));
}

abbrev pub decreases-loop-done : goal.decreases-loop-done
decreases-loop-done g l = length l.bytes - l.done
