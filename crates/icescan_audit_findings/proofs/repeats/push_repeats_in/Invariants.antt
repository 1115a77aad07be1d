use Rattle.std.proofs.Common.{◌≡◌, ◌++◌, ◌-◌, drop}
use Rattle.icescan_audit_findings.specs.Repeats.{repeats_in}
use Rattle.icescan_audit_findings.proofs.repeats.push_repeats_in.Given as goal

-- what was found, and what is left behind the last file that was looked at
abbrev pub invariant-files : goal.invariant-files
invariant-files l = l.findings ++ repeats_in (drop (l.i - 1) l.files) ≡ l.fn.findings ++ repeats_in l.files
