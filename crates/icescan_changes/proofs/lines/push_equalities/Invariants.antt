use Rattle.std.proofs.Common.{◌≡◌, ◌++◌, take}
use Rattle.std.specs.List.{flat_map}
use Rattle.icescan_print.specs.PlanTexts.{equality_text}
use Rattle.icescan_changes.proofs.lines.push_equalities.Given as goal

-- the lines so far
abbrev pub invariant-loop-i : goal.invariant-loop-i
invariant-loop-i l = l.text.items ≡ l.fn.text.items ++ flat_map equality_text (take l.i l.files)
