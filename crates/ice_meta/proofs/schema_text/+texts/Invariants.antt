use Rattle.std.proofs.Common.{◌≡◌, ◌+◌, ◌*◌, drop}
use Rattle.serde_json.specs.View.{items_view}
use Rattle.ice_meta.specs.SchemaTexts.{each_field, nested_in}
use Rattle.ice_meta_json.proofs.Joined.{joined}
use Rattle.ice_meta.proofs.schema_text.+texts.Given as goal

abbrev pub invariant-each_field-fields : goal.invariant-each_field-fields
invariant-each_field-fields l =
    joined (items_view l.fields.items) (each_field (nested_in l.levels) (items_view (drop l.item-index l.item-items)))
    ≡ each_field (nested_in l.levels) (items_view l.item-items)

-- the levels, and then how far a call is from the next level
abbrev pub decreases-nested_of : goal.decreases-nested_of
decreases-nested_of l = 8 * l.levels

abbrev pub decreases-type_of : goal.decreases-type_of
decreases-type_of l = 8 * l.levels + 1

abbrev pub decreases-type_at : goal.decreases-type_at
decreases-type_at l = 8 * l.levels + 2

abbrev pub decreases-field_of : goal.decreases-field_of
decreases-field_of l = 8 * l.levels + 3

abbrev pub decreases-each_field : goal.decreases-each_field
decreases-each_field l = 8 * l.levels + 4

abbrev pub decreases-fields_of : goal.decreases-fields_of
decreases-fields_of l = 8 * l.levels + 5

abbrev pub decreases-struct_of : goal.decreases-struct_of
decreases-struct_of l = 8 * l.levels + 6

abbrev pub decreases-list_of : goal.decreases-list_of
decreases-list_of l = 8 * l.levels + 6

abbrev pub decreases-map_of : goal.decreases-map_of
decreases-map_of l = 8 * l.levels + 6

abbrev pub decreases-object_of : goal.decreases-object_of
decreases-object_of l = 8 * l.levels + 7
