use Rattle.std.proofs.Common.{◌≡◌}
use Rattle.ice_state.specs.Pruning.{pruner_of}
use Rattle.ice_state.specs.Scans.{wanted_rows}
use Rattle.ice_state.proofs.scan.wanted.Given as goal

abbrev pub invariant-rows : goal.invariant-rows
invariant-rows l = record {
  wanted : l.wanted.items ≡ wanted_rows (pruner_of l.fn.pruning.filter l.fn.pruning.specs) l.yielded;
  same : l.pruning ≡ l.fn.pruning;
}
