use Rattle.std.proofs.Common.{◌≡◌, take}
use Rattle.std.specs.List.{flat_map}
use Rattle.icescan_audit_findings.specs.Totals.{false_total}
use Rattle.icescan_audit_findings.proofs.totals.false_totals.Given as goal

abbrev pub invariant-totals : goal.invariant-totals
invariant-totals l = l.found ≡ flat_map (false_total l.files) (take l.total-index l.said)
