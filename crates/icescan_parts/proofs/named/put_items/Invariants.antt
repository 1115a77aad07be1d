use Rattle.std.proofs.Common.{◌≡◌, drop}
use Rattle.serde_json.specs.View.{items_view}
use Rattle.icescan_parts.specs.Gone.{items_kept}
use Rattle.icescan_parts.proofs.named.put_items.Given as goal

-- the lines so far, and those of what is left
abbrev pub invariant-items : goal.invariant-items
invariant-items l = items_kept l.gone l.lines.items (items_view (drop l.item-index l.item-items))
    ≡ items_kept l.gone l.fn.lines.items (items_view l.item-items)
