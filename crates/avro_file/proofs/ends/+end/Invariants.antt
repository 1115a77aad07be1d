use Rattle.std.proofs.Common.{◌≡◌, ◌<◌, ◌-◌, ℕ, suc, List, [], length, drop}
use Rattle.avro_schema.specs.View.{tree}
use Rattle.avro_file.specs.Value.{Value, Pair}
use Rattle.avro_file.proofs.Views.{field_trees}
use Rattle.avro_file_parts.specs.Place.{position_of}
use Rattle.avro_file.specs.Reading.{with_front, values_at, blocks_at, entry_at, datum_at, fields_at}
use Rattle.avro_file.proofs.ends.+end.Given as goal

-- In each, the front is what was read before.

abbrev pub invariant-end_of_some-items : goal.invariant-end_of_some-items
invariant-end_of_some-items l =
    (front : List Value) × (with_front front (values_at (datum_at (tree l.schema)) (l.count - l.counter)
    (position_of l.here)) ≡ with_front [] (values_at (datum_at (tree l.schema)) l.count (position_of l.fn.place)))

-- enough turns are left
abbrev pub invariant-end_of_items-each_block : goal.invariant-end_of_items-each_block
invariant-end_of_items-each_block l =
    (front : List Value) × (turns : ℕ) × (length l.here.bytes.now < turns)
    × (with_front front (blocks_at (datum_at (tree l.schema)) turns (position_of l.here)) ≡ with_front []
    (blocks_at (datum_at (tree l.schema)) (suc (length l.fn.place.bytes.now)) (position_of l.fn.place)))

abbrev pub decreases-end_of_items-each_block : goal.decreases-end_of_items-each_block
decreases-end_of_items-each_block l = length l.here.bytes.now

abbrev pub invariant-end_of_fields-fields : goal.invariant-end_of_fields-fields
invariant-end_of_fields-fields l =
    (front : List Value) × (with_front front (fields_at (field_trees (drop l.field-index l.fields))
    (position_of l.here)) ≡ with_front [] (fields_at (field_trees l.fields) (position_of l.fn.place)))

abbrev pub invariant-end_of_some_entries-items : goal.invariant-end_of_some_entries-items
invariant-end_of_some_entries-items l =
    (front : List Pair) × (with_front front (values_at (entry_at (datum_at (tree l.schema))) (l.count - l.counter)
    (position_of l.here)) ≡ with_front [] (values_at (entry_at (datum_at (tree l.schema))) l.count
    (position_of l.fn.place)))

-- enough turns are left
abbrev pub invariant-end_of_entries-each_block : goal.invariant-end_of_entries-each_block
invariant-end_of_entries-each_block l =
    (front : List Pair) × (turns : ℕ) × (length l.here.bytes.now < turns)
    × (with_front front (blocks_at (entry_at (datum_at (tree l.schema))) turns (position_of l.here)) ≡ with_front []
    (blocks_at (entry_at (datum_at (tree l.schema))) (suc (length l.fn.place.bytes.now)) (position_of l.fn.place)))

abbrev pub decreases-end_of_entries-each_block : goal.decreases-end_of_entries-each_block
decreases-end_of_entries-each_block l = length l.here.bytes.now
