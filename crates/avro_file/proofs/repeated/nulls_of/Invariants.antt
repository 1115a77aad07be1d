use Rattle.std.proofs.Common.{◌≡◌, ◌<◌, ◌≤◌, ◌+◌, ℕ, suc, length, replicate}
use Rattle.avro_schema.specs.Tree.{null}
use Rattle.avro_file_parts.specs.Place.{position_of}
use Rattle.avro_file.specs.Value.{nothing}
use Rattle.avro_file.specs.Reading.{with_front, blocks_at, datum_at}
use Rattle.avro_file.proofs.repeated.nulls_of.Given as goal

-- each item so far was one of those that may be left, and enough turns are left
abbrev pub invariant-each_block : goal.invariant-each_block
invariant-each_block l =
    (turns : ℕ) × (length l.here.bytes.now < turns) × (l.total + l.here.left ≤ l.fn.place.left)
    × (with_front (replicate l.total nothing) (blocks_at (datum_at null) turns (position_of l.here)) ≡ blocks_at
    (datum_at null) (suc (length l.fn.place.bytes.now)) (position_of l.fn.place))

abbrev pub decreases-each_block : goal.decreases-each_block
decreases-each_block l = length l.here.bytes.now
