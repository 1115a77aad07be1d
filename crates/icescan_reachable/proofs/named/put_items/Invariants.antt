use Rattle.std.proofs.Common.{◌≡◌, drop}
use Rattle.serde_json.specs.View.{items_view}
use Rattle.icescan_reachable.specs.Named.{items_behind}
use Rattle.icescan_reachable.proofs.named.put_items.Given as goal

-- the lines so far, and those of what is left
abbrev pub invariant-items : goal.invariant-items
invariant-items l = items_behind l.kind l.member l.lines.items (items_view (drop l.item-index l.item-items))
    ≡ items_behind l.kind l.member l.fn.lines.items (items_view l.item-items)
