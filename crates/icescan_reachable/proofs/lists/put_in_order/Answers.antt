use Rattle.std.proofs.Common.{◌≡◌, rules, ◌∙◌, ap, Bor, Ordering, is_lt}
use Rattle.std.specs.Cmp.{IsStrictWeakOrder}
use Rattle.std.specs.List.{dedup}
use Rattle.std.proofs.lemmas.Cmp.{nat_list_cmp_total}
use Rattle.std.proofs.lemmas.List.Sorted.{answers_always, ranks_by}
use Rattle.contract_words.proofs.Sorted.{sorted_from_sort}
use Rattle.ice_manifest_reading.proofs.Neighbours.{deduped}
use Rattle.ice_manifest_reading.specs.declared.row.Row.{Row}
use Rattle.ice_manifest_reading.specs.Lists.{path_before, same_row}
use Rattle.icescan_reachable.proofs.SameRows.{rows_same}
use Rattle.icescan_reachable.proofs.lists.put_in_order.Goals as goal

pub returns : goal.returns
returns c =
    let order : IsStrictWeakOrder path_before = ranks_by nat_list_cmp_total (λ (r : Row). r.path) in
    let sort = sorted_from_sort path_before order c.args.rows.now.items c.sort_by.new.self.items
    (c.in_ok-sort_by.ensures.sorted path_before order (answers_always _ (λ (a : Bor Row × (Bor Row × Unit {0}))
    (r : Ordering). is_lt r ≡ path_before a.0.now a.1.0.now) _ (λ f a r g h. search rules)))
    (c.in_ok-sort_by.ensures.stable path_before order (answers_always _ (λ (a : Bor Row × (Bor Row × Unit {0}))
    (r : Ordering). is_lt r ≡ path_before a.0.now a.1.0.now) _ (λ f a r g h. search rules))) in
    deduped _ same_row c.sort_by.new.self.items c.dedup.new.self.items c.dedup.ensures.filtered
    rows_same ∙ ap (dedup same_row) sort
