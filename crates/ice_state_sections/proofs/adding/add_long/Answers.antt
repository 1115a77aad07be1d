use Rattle.std.proofs.Common.{w64}
use Rattle.ice_state_sections.specs.Parts.{long}
use Rattle.ice_state_sections.proofs.Added.{a_long, again}
use Rattle.ice_state_sections.proofs.adding.add_long.Goals as goal

pub returns : goal.returns
returns c = again w64 long c.args.value _ _ c.ranges.value (a_long _ _ _ c.in_ok-push_long.ensures)
