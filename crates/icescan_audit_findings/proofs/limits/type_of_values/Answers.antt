use Rattle.std.proofs.Common.{refl}
use Rattle.icescan_audit_findings.proofs.limits.type_of_values.Goals as goal

pub returns-in-Some : goal.returns-in-Some
returns-in-Some c = rw (c.in-Some.is, c.result_type.ensures, c.in_ok-transform.ensures, c.as_str.ensures) refl
