use Rattle.std.proofs.Common.{◌≡◌, ◌≤◌, ◌+◌, ◌*◌, List, Ok, drop, length}
use Rattle.avro_file_parts.specs.Place.{position_of}
use Rattle.avro_file_parts.specs.Parts.{Position}
use Rattle.avro_file.specs.Value.{Value}
use Rattle.avro_file.specs.Reading.{fields_at}
use Rattle.avro_file.proofs.Views.{field_trees}
use Rattle.avro_file_picked.proofs.FieldPaths.{Onward}
use Rattle.avro_file_picked.proofs.found.+field_path.Given as goal

abbrev pub invariant-place_below-fields : goal.invariant-place_below-fields
invariant-place_below-fields l = (l.here.left ≤ l.fn.place.left) × ((vs : List Value) (after : Position)
    → fields_at (field_trees l.fields) (position_of l.fn.place) ≡ Ok (vs, after)
    → Onward l.id (field_trees l.fields) vs (field_trees (drop l.field-index l.fields)) (position_of l.here) after)

abbrev pub decreases-place_on_field_path : goal.decreases-place_on_field_path
decreases-place_on_field_path l = 3 * length l.field_path.now + 2

abbrev pub decreases-place_within : goal.decreases-place_within
decreases-place_within l = 3 * length l.field_path.now + 1

abbrev pub decreases-place_below : goal.decreases-place_below
decreases-place_below l = 3 * length l.field_path.now + 3
