use Rattle.std.proofs.Common.{◌≡◌, ◌++◌, [], map, take}
use Rattle.icescan_audit_all.specs.Lines.{total_line}
use Rattle.icescan_audit_all.proofs.lines.push_totals.Given as goal

abbrev pub invariant-totals : goal.invariant-totals
invariant-totals l = record {
  lines : l.lines.items ≡ l.fn.lines.items ++ map (total_line l.form l.snapshot) (take l.total-index l.totals);
  page : l.page ≡ [];
}
