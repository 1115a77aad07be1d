use Rattle.std.proofs.Common.{◌≤◌, ◌-◌, length, take}
use Rattle.icescan_print.specs.Written.{Appends}
use Rattle.icescan_print.proofs.sink.write_all.Given as goal

abbrev pub invariant-loop-done : goal.invariant-loop-done
invariant-loop-done g l =
    let sink = g.S.Sink in
    record {
      within : l.done ≤ length l.bytes;
      front : Appends (sink.taken l.fn.sink) (sink.taken l.sink) (take l.done l.bytes);
      still : sink.may_fail l.sink → sink.may_fail l.fn.sink;
    }

abbrev pub decreases-loop-done : goal.decreases-loop-done
decreases-loop-done g l = length l.bytes - l.done
