use Rattle.std.proofs.Common.{◌≡◌, ◌≤◌, ◌+◌, ◌*◌, ℕ, List, Ok, drop, length}
use Rattle.avro_file.specs.Value.{Value}
use Rattle.avro_file.specs.Reading.{fields_at}
use Rattle.avro_file.specs.Ending.{standing}
use Rattle.avro_file.specs.Blocks.{max_items}
use Rattle.avro_file.proofs.Views.{field_trees}
use Rattle.avro_file_picked.specs.Rows.{row_of, Stand}
use Rattle.avro_file_picked.proofs.Rows.{Reached}
use Rattle.avro_file_picked.proofs.row.+lead.Given as goal

abbrev pub decreases-lead_of : goal.decreases-lead_of
decreases-lead_of l = 2 * length l.field_path.now

abbrev pub decreases-lead_below : goal.decreases-lead_below
decreases-lead_below l = 2 * length l.field_path.now + 1

abbrev pub invariant-lead_below-fields : goal.invariant-lead_below-fields
invariant-lead_below-fields l =
    (l.count + length (row_of (field_trees (drop l.field-index l.fields))) ≡ length (row_of (field_trees l.fields)))
    × ((bytes : List ℕ) (at left end after : ℕ) (places : List ℕ) (vs : List Value) → at ≤ length bytes
    → left ≤ max_items → Stand (row_of (field_trees l.fields)) places bytes at left end after
    → fields_at (field_trees l.fields) (standing bytes at left) ≡ Ok (vs, standing bytes end after)
    → Reached l.id (field_trees l.fields) vs (field_trees (drop l.field-index l.fields)) places bytes end after l.count)
