use Rattle.std.proofs.Common.{◌≡◌, drop}
use Rattle.serde_json.specs.View.{items_view}
use Rattle.ice_meta.specs.SchemaTexts.{first_with}
use Rattle.ice_meta.proofs.schema_text.first_with.Given as goal

abbrev pub invariant-items : goal.invariant-items
invariant-items l = first_with l.id (items_view (drop l.item-index l.item-items)) ≡ first_with l.id
    (items_view l.item-items)
