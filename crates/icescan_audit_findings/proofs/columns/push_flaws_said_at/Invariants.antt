use Rattle.std.proofs.Common.{◌≡◌, ◌++◌, ◌≤◌, length, take}
use Rattle.icescan_audit_findings.specs.ColumnFlaws.{columns_flaws}
use Rattle.icescan_audit_findings.proofs.Standing.{ArePassed}
use Rattle.icescan_audit_findings.proofs.columns.push_flaws_said_at.Given as goal

-- the columns in front of one were looked at, or nothing is wrong with them
abbrev pub invariant-places : goal.invariant-places
invariant-places l = record {
  low : l.from ≤ length l.columns;
  passed : ArePassed l.columns l.places l.place-index l.from;
  flaws : l.flaws.items ≡ l.fn.flaws.items ++ columns_flaws l.bounds (take l.from l.columns);
}
