use Rattle.std.proofs.Common.{◌≡◌, drop}
use Rattle.serde_json.specs.View.{items_view}
use Rattle.icescan_text.specs.declared.change.fault.ChangeMember.TheVariants.{Partition}
use Rattle.icescan_text.specs.Changes.{as_cell, asked, each, each_behind}
use Rattle.icescan_text.proofs.change.members.each_cell.Given as goal

abbrev pub invariant-cells : goal.invariant-cells
invariant-cells l =
    each_behind (λ item. asked Partition (as_cell item)) (items_view (drop l.item-index l.item-items)) l.cells
    ≡ each (λ item. asked Partition (as_cell item)) (items_view l.item-items)
