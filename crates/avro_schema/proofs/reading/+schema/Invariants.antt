use Rattle.std.proofs.Common.{◌≡◌, [], ◌+◌, ◌*◌, drop}
use Rattle.serde_json.specs.View.{items_view}
use Rattle.avro_schema.specs.View.{trees, parts}
use Rattle.avro_schema.specs.Reading.{branches_at, fields_at, tree_at}
use Rattle.avro_schema.specs.Met.{met}
use Rattle.avro_schema.specs.declared.reading.Role.TheVariants.{Branch, Elsewhere}
use Rattle.avro_schema.proofs.reading.+schema.Given as goal

abbrev pub invariant-branches_of-branches : goal.invariant-branches_of-branches
invariant-branches_of-branches l =
    branches_at (tree_at l.most Branch l.space) (trees l.branches.items) (items_view (drop l.item-index l.item-items))
    (met l.now)
    ≡ branches_at (tree_at l.most Branch l.space) [] (items_view l.item-items) (met l.fn.seen)

abbrev pub invariant-fields_of-fields : goal.invariant-fields_of-fields
invariant-fields_of-fields l =
    fields_at (tree_at l.most Elsewhere l.space) (parts l.fields.items) (items_view (drop l.item-index l.item-items))
    (met l.now)
    ≡ fields_at (tree_at l.most Elsewhere l.space) [] (items_view l.item-items) (met l.fn.seen)

-- the levels, and then how far a call is from the next level
abbrev pub decreases-schema_of : goal.decreases-schema_of
decreases-schema_of l = 6 * l.levels

abbrev pub decreases-field_of : goal.decreases-field_of
decreases-field_of l = 6 * l.most + 1

abbrev pub decreases-branches_of : goal.decreases-branches_of
decreases-branches_of l = 6 * l.most + 1

abbrev pub decreases-array_of : goal.decreases-array_of
decreases-array_of l = 6 * l.most + 1

abbrev pub decreases-map_of : goal.decreases-map_of
decreases-map_of l = 6 * l.most + 1

abbrev pub decreases-fields_of : goal.decreases-fields_of
decreases-fields_of l = 6 * l.most + 2

abbrev pub decreases-union_of : goal.decreases-union_of
decreases-union_of l = 6 * l.most + 2

abbrev pub decreases-record_of : goal.decreases-record_of
decreases-record_of l = 6 * l.most + 3

abbrev pub decreases-object_of : goal.decreases-object_of
decreases-object_of l = 6 * l.most + 4

abbrev pub decreases-node_of : goal.decreases-node_of
decreases-node_of l = 6 * l.most + 5
