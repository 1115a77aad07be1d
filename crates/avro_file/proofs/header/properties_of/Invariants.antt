use Rattle.std.proofs.Common.{◌≡◌, ◌-◌, List, []}
use Rattle.avro_file_parts.specs.Place.{position_of}
use Rattle.avro_file.specs.Where.{wanted_of}
use Rattle.avro_file.specs.Reading.{with_front, values_at}
use Rattle.avro_file.specs.Header.{Property, property_at, wanted_with}
use Rattle.avro_file.proofs.header.properties_of.Given as goal

-- the properties that were read
abbrev pub invariant-properties : goal.invariant-properties
invariant-properties l =
    (front : List Property) × (wanted_of l.so_far ≡ wanted_with (wanted_of l.fn.wanted) front)
    × (with_front front (values_at property_at (l.count - l.counter) (position_of l.here)) ≡ with_front []
    (values_at property_at l.count (position_of l.fn.place)))
