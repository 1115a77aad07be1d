use Rattle.std.proofs.Common.{◌≡◌, [], length, drop, true}
use Rattle.ice_filter.specs.Trees.{operands_after, is_one_filter}
use Rattle.ice_filter.specs.Truths.{judge_parts}
use Rattle.ice_filter.proofs.parts.Parts.is_met.Given as goal

abbrev pub invariant-parts : goal.invariant-parts
invariant-parts g l = record {
  judged : judge_parts (g.T.PredicateTest.says l.test) l.truths (drop l.part-index l.part-items) ≡ judge_parts
      (g.T.PredicateTest.says l.test) [] l.part-items;
  one : is_one_filter (operands_after (length l.truths) (drop l.part-index l.part-items)) ≡ true;
}
