use Rattle.std.proofs.Common.{◌≤◌, ◌-◌, length, take, Ok}
use Rattle.icescan_print.specs.Escaping.{escaped}
use Rattle.icescan_print.specs.Written.{Sent}
use Rattle.icescan_print.proofs.page.Page.put_fronts.Given as goal

-- what was sent so far are the bytes so far
abbrev pub invariant-loop-done : goal.invariant-loop-done
invariant-loop-done g l = record {
  within : l.done ≤ length l.bytes;
  sent : Sent g.S.Sink.taken g.S.Sink.may_fail l.fn.sink l.fn.self (Ok tt) l.sink l.self
      (escaped (take l.done l.bytes));
}

abbrev pub decreases-loop-done : goal.decreases-loop-done
decreases-loop-done g l = length l.bytes - l.done
