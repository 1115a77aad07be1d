use Rattle.std.proofs.Common.{◌≡◌, drop}
use Rattle.serde_json.specs.View.{items_view}
use Rattle.avro_schema.specs.Attributes.{all_items, is_text}
use Rattle.avro_schema.proofs.attributes.all_texts.Given as goal

abbrev pub invariant-items : goal.invariant-items
invariant-items l = all_items is_text (items_view (drop l.item-index l.item-items)) ≡ all_items is_text
    (items_view l.item-items)
