use Rattle.std.proofs.Common.{◌≡◌, ◌<◌, ℕ, suc, length}
use Rattle.avro_schema.specs.Tree.{long}
use Rattle.avro_file_parts.specs.Place.{position_of}
use Rattle.avro_file.specs.Reading.{with_front, blocks_at, datum_at}
use Rattle.avro_file.specs.View.{long_pairs}
use Rattle.avro_file.specs.Pairs.{pair}
use Rattle.avro_file.proofs.pairs.long_pairs_of.Given as goal

-- enough turns are left
abbrev pub invariant-each_block : goal.invariant-each_block
invariant-each_block l =
    (turns : ℕ) × (length l.here.bytes.now < turns)
    × (with_front (long_pairs l.pairs.items) (blocks_at (datum_at (pair long)) turns (position_of l.here)) ≡ blocks_at
    (datum_at (pair long)) (suc (length l.fn.place.bytes.now)) (position_of l.fn.place))

abbrev pub decreases-each_block : goal.decreases-each_block
decreases-each_block l = length l.here.bytes.now
