use Rattle.std.proofs.Common.{◌≡◌, ◌++◌, take}
use Rattle.icescan_audit_findings.specs.ColumnFlaws.{columns_flaws}
use Rattle.icescan_audit_findings.proofs.columns.push_flaws_listed.Given as goal

abbrev pub invariant-columns : goal.invariant-columns
invariant-columns l = l.flaws.items ≡ l.fn.flaws.items ++ columns_flaws l.bounds (take l.i l.columns)
