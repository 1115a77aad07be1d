use Rattle.icescan_audit_all.proofs.Told.{all_faultless, honest_snapshots}
use Rattle.icescan_audit_all.proofs.laws.no_fault_told_is_none.Goals as goal

pub returns-clause-faults : goal.returns-clause-faults
returns-clause-faults g c = all_faultless

pub returns-clause-honest : goal.returns-clause-honest
returns-clause-honest g c = λ form world path o o'.
    honest_snapshots c.audits_tell_of_files.ensures form (g.F.Files.gives c.args.files.now) world path o o'
