use Rattle.std.proofs.Common.{length}
use Rattle.ice_catalog.specs.Machines.{pin, pinned_on}
use Rattle.ice_catalog.proofs.Apart.{after_apart, get_last, stand_apart}
use Rattle.ice_catalog.proofs.machine_laws.pins_stand_apart.Goals as goal

pub returns : goal.returns
returns c = record {
  replies = λ m filter events. stand_apart (pin m filter).1 (length m.pins) (pinned_on m.history filter) events
      (get_last m.pins (pinned_on m.history filter));
  after = λ m filter events. after_apart (pin m filter).1 (length m.pins) (pinned_on m.history filter) events
      (get_last m.pins (pinned_on m.history filter));
  midway = stand_apart;
}
