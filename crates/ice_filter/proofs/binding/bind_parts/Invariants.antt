use Rattle.std.proofs.Common.{◌≡◌, drop}
use Rattle.ice_filter.specs.Binding.{bound_parts}
use Rattle.ice_filter.proofs.Lists.{prefixed}
use Rattle.ice_filter.proofs.binding.bind_parts.Given as goal

-- the parts so far, and what the others give
abbrev pub invariant-parts : goal.invariant-parts
invariant-parts l = prefixed l.bound (bound_parts l.schema (drop l.part-index l.parts)) ≡ bound_parts l.schema l.parts
