use Rattle.std.proofs.Common.{◌≡◌, ◌-◌, drop}
use Rattle.ice_state.specs.Outcomes.{twice}
use Rattle.ice_state.specs.Segments.{entries_at}
use Rattle.ice_state.proofs.finish.check_neighbours.Given as goal

abbrev pub invariant-loop-i : goal.invariant-loop-i
invariant-loop-i l = twice (entries_at l.entries (drop (l.i - 1) l.files)) ≡ twice (entries_at l.entries l.files)
