use Rattle.std.proofs.Common.{◌≡◌, ℕ, List, rules, ◌∙◌, ap, Bor, Ordering, is_lt}
use Rattle.std.specs.Cmp.{IsStrictWeakOrder}
use Rattle.std.specs.List.{dedup}
use Rattle.std.specs.Str.{bytes_eq}
use Rattle.std.proofs.lemmas.Cmp.{nat_list_cmp_total}
use Rattle.std.proofs.lemmas.List.Filters.{dedup_is}
use Rattle.std.proofs.lemmas.List.Sorted.{answers_always, ranks_by}
use Rattle.contract_words.proofs.Sorted.{sorted_from_sort}
use Rattle.icescan_reachable.specs.Lines.{line_before}
use Rattle.icescan_reachable.proofs.order.put_in_order.Goals as goal

pub returns : goal.returns
returns c =
    let order : IsStrictWeakOrder line_before = ranks_by nat_list_cmp_total (λ (text : List ℕ). text) in
    let sort = sorted_from_sort line_before order c.args.lines.now.items c.sort_by.new.self.items
    (c.in_ok-sort_by.ensures.sorted line_before order (answers_always _
    (λ (a : Bor (List ℕ) × (Bor (List ℕ) × Unit {0})) (r : Ordering). is_lt r ≡ line_before a.0.now a.1.0.now) _
    (λ f a r g h. search rules)))
    (c.in_ok-sort_by.ensures.stable line_before order (answers_always _
    (λ (a : Bor (List ℕ) × (Bor (List ℕ) × Unit {0})) (r : Ordering). is_lt r ≡ line_before a.0.now a.1.0.now) _
    (λ f a r g h. search rules))) in
    dedup_is bytes_eq c.sort_by.new.self.items c.dedup.new.self.items c.dedup.ensures.filtered
    ∙ ap (dedup bytes_eq) sort
