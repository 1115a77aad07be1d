use Rattle.std.proofs.Common.{◌≡◌, length, drop}
use Rattle.icescan_json.specs.Named.{with_lines}
use Rattle.icescan_json.proofs.named.mark_named.Given as goal

-- what the tasks that are left will mark
abbrev pub invariant-files : goal.invariant-files
invariant-files l = record {
  many : length l.marks ≡ length l.plan.deletes;
  left : with_lines (drop l.i l.plan.places) l.marks ≡ with_lines l.plan.places l.fn.marks;
}
