use Rattle.std.proofs.Common.{◌≡◌, take, false}
use Rattle.icescan_drill.specs.Drills.{has_file}
use Rattle.icescan_drill.proofs.drilled_table.has_file.Given as goal

-- none of the lines so far has the path
abbrev pub invariant-loop-i : goal.invariant-loop-i
invariant-loop-i l = has_file (take l.i l.lines) l.path ≡ false
