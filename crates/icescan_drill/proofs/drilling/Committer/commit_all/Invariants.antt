use Rattle.std.proofs.Common.{◌≡◌, ◌+◌}
use Rattle.icescan_drill.proofs.drilling.Committer.commit_all.Given as goal

-- as many commits were counted as were made
abbrev pub invariant-loop-commit : goal.invariant-loop-commit
invariant-loop-commit g l = l.seat ≡ l.fn.seat + l.commit
