use Rattle.std.proofs.Common.{◌≡◌, take}
use Rattle.ice_state.proofs.kept.segments.copied_segments.Given as goal

abbrev pub invariant-segments : goal.invariant-segments
invariant-segments l = l.copied.items ≡ take l.segment-index l.segments
