use Rattle.std.proofs.Common.{◌≡◌, length}
use Rattle.icescan_print.proofs.by_workers.drafts_of.Given as goal

abbrev pub invariant-loop : goal.invariant-loop
invariant-loop l = length l.drafts.items ≡ l.counter
