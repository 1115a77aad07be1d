use Rattle.std.proofs.Common.{◌≡◌, length, take}
use Rattle.ice_state_envelopes.specs.Envelopes.{Rise}
use Rattle.ice_state_bytes.specs.Bodies.{sections_of}
use Rattle.ice_state_bytes.proofs.writing.enveloped.Given as goal

abbrev pub invariant-rows : goal.invariant-rows
invariant-rows l = record {
  is : l.envelope
      ≡ record { scan = l.name; rows = length l.bodies; sections = sections_of 0 (take l.i l.bodies) };
  rise : Rise 0 l.i l.envelope.sections;
}
