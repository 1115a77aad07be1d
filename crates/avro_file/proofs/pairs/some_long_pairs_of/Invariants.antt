use Rattle.std.proofs.Common.{◌≡◌, ◌-◌}
use Rattle.avro_schema.specs.Tree.{long}
use Rattle.avro_file_parts.specs.Place.{position_of}
use Rattle.avro_file.specs.Reading.{with_front, values_at, datum_at}
use Rattle.avro_file.specs.View.{long_pairs}
use Rattle.avro_file.specs.Pairs.{pair}
use Rattle.avro_file.proofs.pairs.some_long_pairs_of.Given as goal

abbrev pub invariant-items : goal.invariant-items
invariant-items l =
    with_front (long_pairs l.pairs.items) (values_at (datum_at (pair long)) (l.count - l.counter) (position_of l.here))
    ≡ with_front (long_pairs l.fn.pairs.items) (values_at (datum_at (pair long)) l.count (position_of l.fn.place))
