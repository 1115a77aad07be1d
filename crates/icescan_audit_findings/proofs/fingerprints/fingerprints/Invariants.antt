use Rattle.std.proofs.Common.{◌≡◌, map, take}
use Rattle.icescan_audit_findings.specs.Fingerprints.{fingerprint_of}
use Rattle.icescan_audit_findings.proofs.fingerprints.fingerprints.Given as goal

abbrev pub invariant-files : goal.invariant-files
invariant-files l = l.prints.items ≡ map fingerprint_of (take l.file-index l.files)
