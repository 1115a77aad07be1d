use Rattle.std.proofs.Common.{◌≡◌, rules, Bor, Ordering, is_lt}
use Rattle.std.proofs.lemmas.List.Sorted.{answers_always}
use Rattle.contract_words.proofs.Sorted.{sorted_from_sort}
use Rattle.ice_manifest_reading.specs.declared.row.Row.{Row}
use Rattle.ice_state.specs.Scans.{row_before}
use Rattle.ice_state.proofs.Scans.{row_order}
use Rattle.icescan_audit_all.proofs.manifests.sort_rows.Goals as goal

pub returns : goal.returns
returns c =
    sorted_from_sort row_before row_order c.args.rows.now.items c.sort_by.new.self.items
    (c.in_ok-sort_by.ensures.sorted row_before row_order (answers_always _
    (λ (a : Bor Row × (Bor Row × Unit {0})) (r : Ordering). is_lt r ≡ row_before a.0.now a.1.0.now) _
    (λ f a r g h. search rules)))
    (c.in_ok-sort_by.ensures.stable row_before row_order (answers_always _
    (λ (a : Bor Row × (Bor Row × Unit {0})) (r : Ordering). is_lt r ≡ row_before a.0.now a.1.0.now) _
    (λ f a r g h. search rules)))
