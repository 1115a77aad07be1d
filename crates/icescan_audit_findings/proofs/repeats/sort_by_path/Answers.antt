use Rattle.std.proofs.Common.{◌≡◌, rules, Bor, Ordering, is_lt}
use Rattle.std.proofs.lemmas.Cmp.{nat_list_cmp_total}
use Rattle.std.proofs.lemmas.List.Sorted.{answers_always, ranks_by}
use Rattle.std.specs.Cmp.{IsStrictWeakOrder}
use Rattle.contract_words.proofs.Sorted.{sorted_from_sort}
use Rattle.icescan_audit_findings.specs.declared.repeats.LiveFile.{LiveFile}
use Rattle.icescan_audit_findings.specs.Repeats.{path_before, spelling_of}
use Rattle.icescan_audit_findings.proofs.repeats.sort_by_path.Goals as goal

order : IsStrictWeakOrder path_before
order = ranks_by nat_list_cmp_total spelling_of

pub returns : goal.returns
returns c =
    sorted_from_sort path_before order c.args.files.now.items c.sort_by.new.self.items
    (c.in_ok-sort_by.ensures.sorted path_before order (answers_always _
    (λ (a : Bor LiveFile × (Bor LiveFile × Unit {0})) (r : Ordering). is_lt r ≡ path_before a.0.now a.1.0.now) _
    (λ f a r g h. search rules)))
    (c.in_ok-sort_by.ensures.stable path_before order (answers_always _
    (λ (a : Bor LiveFile × (Bor LiveFile × Unit {0})) (r : Ordering). is_lt r ≡ path_before a.0.now a.1.0.now) _
    (λ f a r g h. search rules)))
