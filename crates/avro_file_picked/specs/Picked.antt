-- What stands where field paths lead, in an object that a file holds.
-- Apache Iceberg table spec v2, 'Column Projection': fields are found by their ids.
use Rattle.std.specs.Prelude.{ℤ, List, map, Option, Some, None}
use Rattle.avro_schema.specs.Tree.{Tree}
use Rattle.avro_file.specs.Value.{Value}
use Rattle.avro_file.specs.Picking.{Picked, absent, null_met, present, pick}

-- the value that was met; where a field is absent or a null is met there is none
abbrev pub value_met : Picked → Option Value
value_met absent = None
value_met null_met = None
value_met (present x) = Some x.1

-- what stands where the field path leads from an object of this type, through records and the branches that unions
-- chose
abbrev pub picked : Tree → Value → List ℤ → Option Value
picked s v field_path = value_met (pick field_path (s, v))

-- the same for each field path
abbrev pub all_picked : Tree → Value → List (List ℤ) → List (Option Value)
all_picked s v field_paths = map (picked s v) field_paths
