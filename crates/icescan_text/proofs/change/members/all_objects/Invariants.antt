use Rattle.std.proofs.Common.{◌≡◌, drop}
use Rattle.serde_json.specs.View.{items_view}
use Rattle.ice_meta.specs.Members.{all_objects}
use Rattle.icescan_text.proofs.change.members.all_objects.Given as goal

abbrev pub invariant-items : goal.invariant-items
invariant-items l = all_objects (items_view (drop l.item-index l.item-items)) ≡ all_objects (items_view l.item-items)
