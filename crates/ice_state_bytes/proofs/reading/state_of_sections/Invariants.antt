use Rattle.std.proofs.Common.{◌≡◌, map}
use Rattle.ice_state.specs.Contents.{IsOf}
use Rattle.ice_state_envelopes.specs.Envelopes.{shown}
use Rattle.ice_state_bytes.specs.OfScans.{IsOfScan}
use Rattle.ice_state_bytes.specs.States.{nothing, with_sections}
use Rattle.ice_state_bytes.proofs.Steps.{from}
use Rattle.ice_state_bytes.proofs.reading.state_of_sections.Given as goal

abbrev pub invariant-sections : goal.invariant-sections
invariant-sections l = record {
  of_scan : IsOf l.scan l.state;
  honest : IsOfScan l.scan l.state;
  rest : with_sections l.scan (nothing l.scan) (map shown l.sections) ≡ from l.scan l.sections l.section-index l.state;
}
