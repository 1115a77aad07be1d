use Rattle.std.proofs.Common.{drop}
use Rattle.ice_state.specs.Contents.{Content, IsOf}
use Rattle.ice_state_bytes.specs.States.{nothing}
use Rattle.icescan_shares.specs.Given.{AreStatesGiven}
use Rattle.icescan_shares.proofs.finishing.read_states.Given as goal

-- the state so far, with the states that are left, is that of all
abbrev pub invariant-paths : goal.invariant-paths
invariant-paths g l = record {
  of_scan : IsOf l.scan l.state;
  given : (after : Content)
      → AreStatesGiven (g.K.Files.gives l.kept) l.scan l.name (drop l.path-index l.paths) l.state after
      → AreStatesGiven (g.K.Files.gives l.kept) l.scan l.name l.paths (nothing l.scan) after;
}
