use Rattle.std.proofs.Common.{◌≡◌, ◌<◌, ℕ, List, [], None, length}
use Rattle.std.specs.Option.{option_copied}
use Rattle.avro_file_parts.specs.Place.{position_of}
use Rattle.avro_file.specs.Reading.{with_front, blocks_at}
use Rattle.avro_file.specs.Header.{Property, last_under, property_at, properties_at}
use Rattle.icescan_audit_findings.proofs.header.property_under.Given as goal

-- the properties that were read, and enough turns are left
abbrev pub invariant-each_block : goal.invariant-each_block
invariant-each_block l =
    (front : List Property) × (option_copied l.found ≡ last_under l.key None front) × (turns : ℕ) ×
    (length l.here.bytes.now < turns)
    × (with_front front (blocks_at property_at turns (position_of l.here)) ≡ with_front [] (properties_at l.bytes))

abbrev pub decreases-each_block : goal.decreases-each_block
decreases-each_block l = length l.here.bytes.now
