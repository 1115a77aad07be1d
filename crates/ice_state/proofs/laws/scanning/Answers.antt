use Rattle.ice_state.proofs.Scanning.{members, in_order, known, same_specs, refused}
use Rattle.ice_state.proofs.Scans.{made, same_pruner}
use Rattle.ice_state.proofs.laws.scanning.Goals as goal

pub returns : goal.returns
returns c = record {
  made = made;
  wanted = members;
  sorted = in_order;
  known = known;
  same_specs = same_specs;
  same_pruner = same_pruner;
  refused = refused;
}
