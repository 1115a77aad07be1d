use Rattle.std.proofs.Common.{◌≡◌, ◌<◌, ◌-◌, ℕ, suc, length, drop}
use Rattle.avro_schema.specs.View.{tree}
use Rattle.avro_file.specs.View.{views, entry_views}
use Rattle.avro_file.proofs.Views.{field_trees}
use Rattle.avro_file_parts.specs.Place.{position_of}
use Rattle.avro_file.specs.Reading.{with_front, values_at, blocks_at, entry_at, datum_at, fields_at}
use Rattle.avro_file.proofs.decode.+datum.Given as goal

abbrev pub invariant-items_of-items : goal.invariant-items_of-items
invariant-items_of-items l =
    with_front (views l.values.items) (values_at (datum_at (tree l.schema)) (l.count - l.counter) (position_of l.here))
    ≡ with_front (views l.fn.values.items) (values_at (datum_at (tree l.schema)) l.count (position_of l.fn.place))

-- enough turns are left
abbrev pub invariant-array_of-each_block : goal.invariant-array_of-each_block
invariant-array_of-each_block l =
    (turns : ℕ) × (length l.here.bytes.now < turns)
    × (with_front (views l.values.items) (blocks_at (datum_at (tree l.schema)) turns (position_of l.here)) ≡ blocks_at
    (datum_at (tree l.schema)) (suc (length l.fn.place.bytes.now)) (position_of l.fn.place))

abbrev pub decreases-array_of-each_block : goal.decreases-array_of-each_block
decreases-array_of-each_block l = length l.here.bytes.now

abbrev pub invariant-record_of-fields : goal.invariant-record_of-fields
invariant-record_of-fields l =
    with_front (views l.values.items) (fields_at (field_trees (drop l.field-index l.fields)) (position_of l.here))
    ≡ fields_at (field_trees l.fields) (position_of l.fn.place)

abbrev pub invariant-entries_of-items : goal.invariant-entries_of-items
invariant-entries_of-items l =
    with_front (entry_views l.values.items) (values_at (entry_at (datum_at (tree l.schema))) (l.count - l.counter)
    (position_of l.here))
    ≡ with_front (entry_views l.fn.values.items) (values_at (entry_at (datum_at (tree l.schema))) l.count
    (position_of l.fn.place))

-- enough turns are left
abbrev pub invariant-map_of-each_block : goal.invariant-map_of-each_block
invariant-map_of-each_block l =
    (turns : ℕ) × (length l.here.bytes.now < turns)
    × (with_front (entry_views l.values.items) (blocks_at (entry_at (datum_at (tree l.schema))) turns
    (position_of l.here)) ≡ blocks_at (entry_at (datum_at (tree l.schema))) (suc (length l.fn.place.bytes.now))
    (position_of l.fn.place))

abbrev pub decreases-map_of-each_block : goal.decreases-map_of-each_block
decreases-map_of-each_block l = length l.here.bytes.now
