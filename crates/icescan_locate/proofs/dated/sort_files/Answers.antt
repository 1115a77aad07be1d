use Rattle.std.proofs.Common.{◌≡◌, rules, Bor, Ordering, is_lt}
use Rattle.std.proofs.lemmas.List.Sorted.{answers_always}
use Rattle.contract_words.proofs.Sorted.{sorted_from_sort}
use Rattle.icescan_locate.specs.Dated.{file_order}
use Rattle.icescan_locate.specs.declared.dated.DatedFile.{DatedFile}
use Rattle.icescan_locate.proofs.Order.{file_order_ranks}
use Rattle.icescan_locate.proofs.dated.sort_files.Goals as goal

pub returns : goal.returns
returns c =
    let before = λ (a : DatedFile) (b : DatedFile). is_lt (file_order a b) in
    sorted_from_sort before file_order_ranks c.args.files.now.items c.sort_by.new.self.items
    (c.in_ok-sort_by.ensures.sorted before file_order_ranks (answers_always _
    (λ (a : Bor DatedFile × (Bor DatedFile × Unit {0})) (r : Ordering). is_lt r ≡ before a.0.now a.1.0.now) _
    (λ f a r g h. search rules)))
    (c.in_ok-sort_by.ensures.stable before file_order_ranks (answers_always _
    (λ (a : Bor DatedFile × (Bor DatedFile × Unit {0})) (r : Ordering). is_lt r ≡ before a.0.now a.1.0.now) _
    (λ f a r g h. search rules)))
