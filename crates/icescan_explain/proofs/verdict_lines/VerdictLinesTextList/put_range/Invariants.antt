use Rattle.std.proofs.Common.{◌≤◌, ◌-◌, Ok}
use Rattle.icescan_print.specs.Ranges.{range_text}
use Rattle.icescan_print.specs.Written.{Sent}
use Rattle.icescan_explain.proofs.verdict_lines.VerdictLinesTextList.put_range.Given as goal

-- the texts so far were sent
abbrev pub invariant-loop-i : goal.invariant-loop-i
invariant-loop-i g l = record {
  from : l.first ≤ l.i;
  upto : l.i - l.first ≤ l.count;
  sent : Sent g.S.Sink.taken g.S.Sink.may_fail l.fn.sink l.fn.page (Ok tt) l.sink l.page
      (range_text l.self l.first (l.i - l.first));
}
