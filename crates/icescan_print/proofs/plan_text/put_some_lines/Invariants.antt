use Rattle.std.proofs.Common.{◌≡◌, ◌≤◌, ◌-◌, Ok, map}
use Rattle.icescan_print.specs.PlanTexts.{line_text}
use Rattle.icescan_print.specs.Ranges.{range_text}
use Rattle.icescan_print.specs.Written.{Sent}
use Rattle.icescan_print.proofs.plan_text.put_some_lines.Given as goal

-- the texts so far were sent
abbrev pub invariant-loop-i : goal.invariant-loop-i
invariant-loop-i g l = record {
  same : l.made ≡ l.lines;
  from : l.first ≤ l.i;
  upto : l.i - l.first ≤ l.count;
  sent : Sent g.S.Sink.taken g.S.Sink.may_fail l.fn.sink l.fn.page (Ok tt) l.sink l.page
      (range_text (map line_text l.lines) l.first (l.i - l.first));
}
