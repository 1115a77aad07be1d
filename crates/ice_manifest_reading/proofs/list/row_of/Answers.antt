use Rattle.std.proofs.Common.{rules, w32, w64}
use Rattle.std.proofs.lemmas.Int.{to_z-of_z}
use Rattle.std.proofs.lemmas.Result.{err_from_is_err_and}
use Rattle.ice_manifest_layouts.specs.RowsFound.{row_seen}
use Rattle.ice_manifest_reading.specs.Gathering.{counts_kept, summaries_kept}
use Rattle.ice_manifest_reading.proofs.FoundRows.{summaries_at_fault, all_read}
use Rattle.ice_manifest_reading.proofs.list.row_of.Goals as goal

pub returns-in_err-partitions_at : goal.returns-in_err-partitions_at
returns-in_err-partitions_at c =
    let p = err_from_is_err_and c.from_residual-in_err-partitions_at.result
    c.from_residual-in_err-partitions_at.ensures.1 in
    rw (p.1, p.2) (λ other. summaries_at_fault (row_seen c.args.row.now) _ _ _ _ _ _ _ _ _ c.in_ok-path.ensures.said
    c.in_ok-long.ensures c.in_ok-int.ensures c.in_ok-content_at.ensures c.in_ok-number_or_zero.ensures
    c.in_ok-number_or_zero-2.ensures c.in_ok-long-2.ensures c.in_ok-counts_at.ensures
    (c.in_err-partitions_at.ensures other))

pub returns : goal.returns
returns c = all_read (row_seen c.args.row.now) c.in_ok-path.field-0.now c.in_ok-long.field-0 c.in_ok-int.field-0
    c.in_ok-content_at.field-0 c.in_ok-number_or_zero.field-0 c.in_ok-number_or_zero-2.field-0 c.in_ok-long-2.field-0
    c.in_ok-counts_at.field-0 c.in_ok-partitions_at.field-0 _ _ _ (counts_kept c.in_ok-kept.field-0)
    (summaries_kept c.in_ok-kept_summaries.field-0) c.in_ok-path.ensures.said c.in_ok-long.ensures c.in_ok-int.ensures
    c.in_ok-content_at.ensures c.in_ok-number_or_zero.ensures c.in_ok-number_or_zero-2.ensures c.in_ok-long-2.ensures
    c.in_ok-counts_at.ensures c.in_ok-partitions_at.ensures (to_z-of_z w64 c.in_ok-long.field-0 (search rules))
    (to_z-of_z w32 c.in_ok-int.field-0 (search rules)) (to_z-of_z w64 c.in_ok-long-2.field-0 (search rules))
    c.in_ok-kept.ensures c.in_ok-kept_summaries.ensures
