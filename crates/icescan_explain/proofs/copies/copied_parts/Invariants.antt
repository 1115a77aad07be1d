use Rattle.std.proofs.Common.{◌≡◌, take}
use Rattle.icescan_explain.proofs.copies.copied_parts.Given as goal

abbrev pub invariant-parts : goal.invariant-parts
invariant-parts l = l.copied ≡ take l.part-index l.parts
