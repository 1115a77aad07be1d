use Rattle.std.proofs.Common.{◌≡◌}
use Rattle.icescan_drill.proofs.drilling.Committer.commit_file.Given as goal

abbrev pub invariant-loop-try : goal.invariant-loop-try
invariant-loop-try g l = l.seat ≡ l.fn.seat
