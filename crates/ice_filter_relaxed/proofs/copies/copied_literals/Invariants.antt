use Rattle.std.proofs.Common.{◌≡◌, take}
use Rattle.ice_filter_relaxed.proofs.copies.copied_literals.Given as goal

abbrev pub invariant-literals : goal.invariant-literals
invariant-literals l = l.copied ≡ take l.literal-index l.literals
