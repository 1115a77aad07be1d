use Rattle.std.proofs.Common.{◌≡◌, ◌-◌}
use Rattle.avro_schema.specs.declared.schema.BytesKind.TheVariants.{Plain}
use Rattle.avro_schema.specs.Tree.{octets}
use Rattle.avro_file_parts.specs.Place.{position_of}
use Rattle.avro_file.specs.Reading.{with_front, values_at, datum_at}
use Rattle.avro_file.specs.View.{bytes_pairs}
use Rattle.avro_file.specs.Pairs.{pair}
use Rattle.avro_file.proofs.pairs.some_bytes_pairs_of.Given as goal

abbrev pub invariant-items : goal.invariant-items
invariant-items l =
    with_front (bytes_pairs l.pairs.items) (values_at (datum_at (pair (octets Plain))) (l.count - l.counter)
    (position_of l.here))
    ≡ with_front (bytes_pairs l.fn.pairs.items) (values_at (datum_at (pair (octets Plain))) l.count
    (position_of l.fn.place))
