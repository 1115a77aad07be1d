use Rattle.std.proofs.Common.{◌≡◌, map}
use Rattle.std.specs.List.{range_with_len}
use Rattle.ice_state.specs.Placed.{place_of}
use Rattle.ice_state.proofs.kept.ordered.first_paths.Given as goal

abbrev pub invariant-slots : goal.invariant-slots
invariant-slots l = map place_of l.placed.items ≡ range_with_len 0 l.i
