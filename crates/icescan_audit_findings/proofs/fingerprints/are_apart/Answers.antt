use Rattle.std.proofs.Common.{subst}
use Rattle.icescan_audit_findings.specs.Fingerprints.{AreRising}
use Rattle.icescan_audit_findings.proofs.Fingerprinted.{fingerprints_apart}
use Rattle.icescan_audit_findings.proofs.fingerprints.are_apart.Goals as goal

pub returns : goal.returns
returns c = λ yes. fingerprints_apart c.args.files.now c.in_ok-prints.prints.items c.in_ok-prints.ensures
    (subst AreRising c.deref.ensures.value (c.rise.ensures yes))
