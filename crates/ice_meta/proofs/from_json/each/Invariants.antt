use Rattle.std.proofs.Common.{◌≡◌, [], drop}
use Rattle.serde_json.specs.View.{items_view}
use Rattle.ice_meta.specs.Reading.{each_into, one_more}
use Rattle.ice_meta.proofs.from_json.each.Given as goal

abbrev pub invariant-items : goal.invariant-items
invariant-items g l = each_into (one_more g.T.FromJson.said) (items_view (drop l.item-index l.item-items)) l.values
    ≡ each_into (one_more g.T.FromJson.said) (items_view l.item-items) []
