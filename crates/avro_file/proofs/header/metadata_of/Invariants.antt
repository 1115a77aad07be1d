use Rattle.std.proofs.Common.{◌≡◌, ◌<◌, ℕ, List, [], length}
use Rattle.avro_file_parts.specs.Place.{position_of}
use Rattle.avro_file.specs.Where.{wanted_of}
use Rattle.avro_file.specs.Reading.{with_front, blocks_at}
use Rattle.avro_file.specs.Header.{Property, property_at, properties_at, wanted_with, none_wanted}
use Rattle.avro_file.proofs.header.metadata_of.Given as goal

-- the properties that were read, and enough turns are left
abbrev pub invariant-each_block : goal.invariant-each_block
invariant-each_block l =
    (front : List Property) × (wanted_of l.wanted ≡ wanted_with none_wanted front) × (turns : ℕ) ×
    (length l.here.bytes.now < turns)
    × (with_front front (blocks_at property_at turns (position_of l.here)) ≡ with_front [] (properties_at l.bytes))

abbrev pub decreases-each_block : goal.decreases-each_block
decreases-each_block l = length l.here.bytes.now
