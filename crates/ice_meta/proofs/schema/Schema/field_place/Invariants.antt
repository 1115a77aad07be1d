use Rattle.std.proofs.Common.{◌≡◌, drop}
use Rattle.ice_meta.specs.Columns.{is_field, first_place, field_place}
use Rattle.ice_meta.proofs.schema.Schema.field_place.Given as goal

abbrev pub invariant-columns : goal.invariant-columns
invariant-columns l = first_place (is_field l.around l.name) l.place (drop l.place l.columns) ≡ field_place l.around
    l.name l.columns
