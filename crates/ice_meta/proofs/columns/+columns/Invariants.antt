use Rattle.std.proofs.Common.{◌≡◌, ◌+◌, ◌*◌, drop}
use Rattle.serde_json.specs.View.{items_view}
use Rattle.ice_meta.specs.Reading.{each_into}
use Rattle.ice_meta.specs.Schemas.{field_at, inside}
use Rattle.ice_meta.proofs.columns.+columns.Given as goal

abbrev pub invariant-each_field-fields : goal.invariant-each_field-fields
invariant-each_field-fields l =
    each_into (field_at (inside l.levels) l.around) (items_view (drop l.item-index l.item-items)) l.now
    ≡ each_into (field_at (inside l.levels) l.around) (items_view l.item-items) l.fn.columns

-- the levels, and then how far a call is from the next level
abbrev pub decreases-inside_of : goal.decreases-inside_of
decreases-inside_of l = 6 * l.levels

abbrev pub decreases-added : goal.decreases-added
decreases-added l = 6 * l.levels + 1

abbrev pub decreases-field_of : goal.decreases-field_of
decreases-field_of l = 6 * l.levels + 2

abbrev pub decreases-list_of : goal.decreases-list_of
decreases-list_of l = 6 * l.levels + 2

abbrev pub decreases-map_of : goal.decreases-map_of
decreases-map_of l = 6 * l.levels + 2

abbrev pub decreases-each_field : goal.decreases-each_field
decreases-each_field l = 6 * l.levels + 3

abbrev pub decreases-fields_of : goal.decreases-fields_of
decreases-fields_of l = 6 * l.levels + 4

abbrev pub decreases-object_of : goal.decreases-object_of
decreases-object_of l = 6 * l.levels + 5
