use Rattle.std.proofs.Common.{◌≡◌, ◌≤◌, ◌+◌, ◌*◌, ℤ, List, Ok, drop, length}
use Rattle.avro_schema.specs.Tree.{Fields}
use Rattle.avro_file_parts.specs.Place.{position_of}
use Rattle.avro_file_parts.specs.Parts.{Position}
use Rattle.avro_file.specs.Value.{Value}
use Rattle.avro_file.specs.Reading.{fields_at}
use Rattle.avro_file_picked.specs.Guides.{all_seen, AreParts}
use Rattle.avro_file_picked.proofs.Guided.{Led}
use Rattle.avro_file_picked.proofs.guide.+guided.Given as goal

abbrev pub invariant-place_past-guides : goal.invariant-place_past-guides
invariant-place_past-guides l = (l.here.left ≤ l.fn.place.left)
    × ((field_paths : List (List ℤ)) (fs : Fields) (vs : List Value) (after : Position)
    → AreParts field_paths (all_seen l.guides) fs
    → fields_at fs (position_of l.fn.place) ≡ Ok (vs, after)
    → Led field_paths l.id fs vs (all_seen (drop l.guide-index l.guides)) (position_of l.here) after)

abbrev pub decreases-place_by : goal.decreases-place_by
decreases-place_by l = 3 * length l.field_path.now + 2

abbrev pub decreases-place_inside : goal.decreases-place_inside
decreases-place_inside l = 3 * length l.field_path.now + 1

abbrev pub decreases-place_past : goal.decreases-place_past
decreases-place_past l = 3 * length l.field_path.now + 3
