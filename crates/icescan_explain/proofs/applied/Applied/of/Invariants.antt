use Rattle.std.proofs.Common.{◌≡◌, ℕ, List, take}
use Rattle.icescan_explain.specs.Applying.{times_at, times_in}
use Rattle.icescan_explain.proofs.applied.Applied.of.Given as goal

abbrev pub invariant-deletes : goal.invariant-deletes
invariant-deletes l = (q : List ℕ) →
    times_in l.applied q ≡ times_at q (take l.i l.plan.deletes) (take l.i l.times.items)
