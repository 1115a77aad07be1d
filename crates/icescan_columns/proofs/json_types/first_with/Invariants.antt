use Rattle.std.proofs.Common.{◌≡◌, drop}
use Rattle.serde_json.specs.View.{items_view}
use Rattle.icescan_columns.specs.JsonTypes.{first_with}
use Rattle.icescan_columns.proofs.json_types.first_with.Given as goal

-- none of the items so far
abbrev pub invariant-items : goal.invariant-items
invariant-items l = first_with l.member l.id (items_view (drop l.item-index l.item-items))
    ≡ first_with l.member l.id (items_view l.item-items)
