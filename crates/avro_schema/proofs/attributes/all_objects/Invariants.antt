use Rattle.std.proofs.Common.{◌≡◌, drop}
use Rattle.serde_json.specs.View.{items_view}
use Rattle.avro_schema.specs.Attributes.{all_items, is_object}
use Rattle.avro_schema.proofs.attributes.all_objects.Given as goal

abbrev pub invariant-items : goal.invariant-items
invariant-items l = all_items is_object (items_view (drop l.item-index l.item-items)) ≡ all_items is_object
    (items_view l.item-items)
