use Rattle.std.proofs.Common.{◌≡◌, take}
use Rattle.ice_filter_relaxed.specs.Relaxing.{relaxed, unasked}
use Rattle.ice_filter_relaxed.proofs.relaxing.relax.Given as goal

-- the parts so far, and the predicates of these that are not asked
abbrev pub invariant-parts : goal.invariant-parts
invariant-parts l = record {
  kept : l.parts ≡ relaxed l.schema (take l.part-index l.of_filter);
  texts : l.unasked ≡ unasked l.schema (take l.part-index l.of_filter);
}
