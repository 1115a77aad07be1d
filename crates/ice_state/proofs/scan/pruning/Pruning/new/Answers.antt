use Rattle.std.proofs.Common.{sym, subst}
use Rattle.ice_state.specs.Parts.{AreProjected}
use Rattle.ice_state.proofs.Held.{none_projected}
use Rattle.ice_state.proofs.Specs.{in_order}
use Rattle.ice_state.proofs.scan.pruning.Pruning.new.Goals as goal

pub invariant_of-result : goal.invariant_of-result
invariant_of-result c = record {
  by_id = in_order c.args.specs.items c.sort_by_id.new.specs.items c.in_ok-sort_by_id.ensures;
  held = subst (AreProjected c.args.filter.parts c.sort_by_id.new.specs.items) (sym c.in_ok-parts.ensures)
      (none_projected c.args.filter.parts c.sort_by_id.new.specs.items _);
}
