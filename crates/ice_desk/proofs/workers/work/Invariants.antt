use Rattle.std.proofs.Common.{◌-◌, ◌<◌, ◌^◌, length}
use Rattle.ice_state.specs.Contents.{IsOf}
use Rattle.ice_desk.specs.Given.{IsGiven}
use Rattle.ice_desk.specs.Left.{all_left}
use Rattle.ice_desk.specs.Seats.{IsSeatOf, hand_of, limit_of}
use Rattle.ice_desk.specs.Works.{Worked}
use Rattle.ice_desk.proofs.workers.work.Given as goal

abbrev pub invariant-loop-i : goal.invariant-loop-i
invariant-loop-i g l = record {
  seat : IsSeatOf l.desk l.seat;
  of_scan : IsOf l.scan l.state;
  small : all_left l.left < 2 ^ 32;
  worked : Worked (g.F.Files.world l.files) (g.F.Files.may_fail l.files) l.desk l.scan l.fn.seat l.seat l.fn.state
      l.state l.left;
  given : IsGiven (g.F.Files.gives l.files) l.scan l.fn.state → IsGiven (g.F.Files.gives l.files) l.scan l.state;
}

abbrev pub decreases-loop-i : goal.decreases-loop-i
decreases-loop-i g l = limit_of l.desk - length (hand_of l.seat).drawn
