use Rattle.std.proofs.Common.{◌+◌, ◌*◌}
use Rattle.icescan_audit_findings.proofs.fingerprints.+fingerprints_by_workers+fn-fingerprints_by_workers-join+arg2+fn-fingerprints_by_workers-join+arg3.Given as goal

abbrev pub decreases-fingerprints_by_workers : goal.decreases-fingerprints_by_workers
decreases-fingerprints_by_workers g l = 2 * l.workers

abbrev pub decreases-join+arg2 : goal.decreases-join+arg2
decreases-join+arg2 g l = 2 * l.half + 1

abbrev pub decreases-join+arg3 : goal.decreases-join+arg3
decreases-join+arg3 g l = 2 * l.other_half + 1
