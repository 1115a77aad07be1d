use Rattle.std.proofs.Common.{◌≡◌, ◌≤◌, ◌<◌, ◌-◌, ℕ, suc, List, [], length, drop}
use Rattle.avro_schema.specs.View.{tree}
use Rattle.avro_file.specs.Value.{Value, Pair}
use Rattle.avro_file.specs.Ending.{standing}
use Rattle.avro_file.specs.Reading.{with_front, values_at, blocks_at, entry_at, datum_at, fields_at}
use Rattle.avro_file.proofs.Views.{field_trees}
use Rattle.avro_file.proofs.quick.+quick.Given as goal

-- In each, the front is what was passed before.

abbrev pub invariant-fields_end-fields : goal.invariant-fields_end-fields
invariant-fields_end-fields l =
    (l.here ≤ length l.bytes) × (front : List Value) ×
    (with_front front (fields_at (field_trees (drop l.field-index l.fields)) (standing l.bytes l.here l.left))
    ≡ with_front [] (fields_at (field_trees l.fields) (standing l.bytes l.at l.fn.left)))

abbrev pub invariant-some_end-items : goal.invariant-some_end-items
invariant-some_end-items l =
    (l.here ≤ length l.bytes) × (front : List Value) × (with_front front (values_at (datum_at (tree l.schema))
    (l.count - l.counter) (standing l.bytes l.here l.left)) ≡ with_front [] (values_at (datum_at (tree l.schema))
    l.count (standing l.bytes l.at l.fn.left)))

-- enough turns are left
abbrev pub invariant-items_end-each_block : goal.invariant-items_end-each_block
invariant-items_end-each_block l =
    (l.here ≤ length l.bytes) × (front : List Value) × (turns : ℕ) × (length (drop l.here l.bytes) < turns)
    × (with_front front (blocks_at (datum_at (tree l.schema)) turns (standing l.bytes l.here l.left)) ≡ with_front []
    (blocks_at (datum_at (tree l.schema)) (suc (length (drop l.at l.bytes))) (standing l.bytes l.at l.fn.left)))

abbrev pub decreases-items_end-each_block : goal.decreases-items_end-each_block
decreases-items_end-each_block l = length (drop l.here l.bytes)

abbrev pub invariant-entries_end-each_block : goal.invariant-entries_end-each_block
invariant-entries_end-each_block l =
    (l.here ≤ length l.bytes) × (front : List Pair) × (turns : ℕ) × (length (drop l.here l.bytes) < turns)
    × (with_front front (blocks_at (entry_at (datum_at (tree l.schema))) turns (standing l.bytes l.here l.left))
    ≡ with_front [] (blocks_at (entry_at (datum_at (tree l.schema))) (suc (length (drop l.at l.bytes)))
    (standing l.bytes l.at l.fn.left)))

abbrev pub decreases-entries_end-each_block : goal.decreases-entries_end-each_block
decreases-entries_end-each_block l = length (drop l.here l.bytes)

abbrev pub invariant-some_entries_end-items : goal.invariant-some_entries_end-items
invariant-some_entries_end-items l =
    (l.here ≤ length l.bytes) × (front : List Pair) × (with_front front (values_at (entry_at (datum_at (tree l.schema)))
    (l.count - l.counter) (standing l.bytes l.here l.left)) ≡ with_front []
    (values_at (entry_at (datum_at (tree l.schema))) l.count (standing l.bytes l.at l.fn.left)))
