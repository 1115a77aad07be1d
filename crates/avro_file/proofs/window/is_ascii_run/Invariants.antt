use Rattle.std.proofs.Common.{◌≤◌, ◌-◌}
use Rattle.avro_file.proofs.Ascii.{AreSmall}
use Rattle.avro_file.proofs.window.is_ascii_run.Given as goal

abbrev pub invariant-windows : goal.invariant-windows
invariant-windows l = (l.start ≤ l.here) × (l.here ≤ l.end) × AreSmall l.bytes l.start l.here

abbrev pub decreases-windows : goal.decreases-windows
decreases-windows l = l.end - l.here
