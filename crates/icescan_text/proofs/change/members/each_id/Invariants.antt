use Rattle.std.proofs.Common.{◌≡◌, drop}
use Rattle.serde_json.specs.View.{items_view}
use Rattle.icescan_text.specs.declared.change.fault.ChangeMember.TheVariants.{EqualityIds}
use Rattle.icescan_text.specs.Changes.{as_int, asked, each, each_behind}
use Rattle.icescan_text.proofs.change.members.each_id.Given as goal

abbrev pub invariant-ids : goal.invariant-ids
invariant-ids l =
    each_behind (λ item. asked EqualityIds (as_int item)) (items_view (drop l.item-index l.item-items)) l.ids
    ≡ each (λ item. asked EqualityIds (as_int item)) (items_view l.item-items)
