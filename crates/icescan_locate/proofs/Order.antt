-- The order of metadata files.
use Rattle.std.specs.Cmp.{IsStrictWeakOrder, IsTotalOrder, on_total, then_total}
use Rattle.std.specs.Ordering.{is_lt}
use Rattle.std.proofs.lemmas.Cmp.{back_total, nat_cmp_total, nat_list_cmp_total}
use Rattle.std.proofs.lemmas.List.Sorted.{ranks_by}
use Rattle.icescan_locate.specs.Dated.{file_order}
use Rattle.icescan_locate.specs.declared.dated.DatedFile.{DatedFile}

pub file_order_total : IsTotalOrder file_order
file_order_total = then_total (on_total (λ (f : DatedFile). f.number) (back_total nat_cmp_total))
    (on_total (λ (f : DatedFile). f.name) nat_list_cmp_total)

pub file_order_ranks : IsStrictWeakOrder (λ a b. is_lt (file_order a b))
file_order_ranks = ranks_by file_order_total (λ (f : DatedFile). f)
