use Rattle.std.proofs.Common.{◌≡◌, ◌≤◌, ◌*◌, ◌^◌, take}
use Rattle.std.specs.Prelude.{sum_by}
use Rattle.icescan_print.specs.PlanTexts.{deletes_of}
use Rattle.icescan_print.proofs.plan_text.count_deletes.Given as goal

abbrev pub invariant-loop-i : goal.invariant-loop-i
invariant-loop-i l = (l.deletes ≡ sum_by deletes_of (take l.i l.lines)) × (l.deletes ≤ l.i * 2 ^ 64)
