use Rattle.icescan_audit_findings.proofs.Apart.{apart_repeats, none_repeats}
use Rattle.icescan_audit_findings.proofs.laws.repeats_tell_paths_apart.Goals as goal

pub returns : goal.returns
returns c = λ files. (none_repeats files, apart_repeats files)
