use Rattle.std.proofs.Common.{◌≡◌, ◌-◌, List, []}
use Rattle.std.specs.Option.{option_copied}
use Rattle.avro_file_parts.specs.Place.{position_of}
use Rattle.avro_file.specs.Reading.{with_front, values_at}
use Rattle.avro_file.specs.Header.{Property, last_under, property_at}
use Rattle.icescan_audit_findings.proofs.header.found_in.Given as goal

-- the properties that were read
abbrev pub invariant-properties : goal.invariant-properties
invariant-properties l =
    (front : List Property) × (option_copied l.so_far ≡ last_under l.key (option_copied l.fn.found) front)
    × (with_front front (values_at property_at (l.count - l.counter) (position_of l.here)) ≡ with_front []
    (values_at property_at l.count (position_of l.fn.place)))
