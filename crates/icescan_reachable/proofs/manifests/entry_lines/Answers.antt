use Rattle.std.proofs.Common.{}
use Rattle.icescan_reachable.proofs.Causes.{at_fault}
use Rattle.icescan_reachable.proofs.manifests.entry_lines.Goals as goal

pub returns-in-Err-clause-causes : goal.returns-in-Err-clause-causes
returns-in-Err-clause-causes c = at_fault c.args.row.now c.args.bytes.now c.in-Err.fault c.refusal.result
    c.refusal.ensures.why c.in-Err.ensures
