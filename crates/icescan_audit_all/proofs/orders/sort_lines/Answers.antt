use Rattle.std.proofs.Common.{◌≡◌, rules, Bor, Ordering, is_lt}
use Rattle.std.proofs.lemmas.Cmp.{nat_list_cmp_total}
use Rattle.std.proofs.lemmas.List.Sorted.{answers_always, ranks_by}
use Rattle.std.specs.Cmp.{IsStrictWeakOrder}
use Rattle.contract_words.proofs.Sorted.{sorted_from_sort}
use Rattle.icescan_audit_all.specs.Lines.{line_before}
use Rattle.icescan_audit_all.specs.declared.lines.Line.{Line}
use Rattle.icescan_audit_all.proofs.orders.sort_lines.Goals as goal

order : IsStrictWeakOrder line_before
order = ranks_by nat_list_cmp_total (λ (l : Line). l.front)

pub returns : goal.returns
returns c =
    sorted_from_sort line_before order c.args.lines.now.items c.sort_by.new.self.items
    (c.in_ok-sort_by.ensures.sorted line_before order (answers_always _
    (λ (a : Bor Line × (Bor Line × Unit {0})) (r : Ordering). is_lt r ≡ line_before a.0.now a.1.0.now) _
    (λ f a r g h. search rules)))
    (c.in_ok-sort_by.ensures.stable line_before order (answers_always _
    (λ (a : Bor Line × (Bor Line × Unit {0})) (r : Ordering). is_lt r ≡ line_before a.0.now a.1.0.now) _
    (λ f a r g h. search rules)))
