use Rattle.std.proofs.Common.{◌≡◌, ◌==◌, ◌≤◌, ◌+◌, ◌*◌, ◌++◌, map, drop}
use Rattle.icescan_shares.specs.Shares.{are_in_share, shares_from, total_weight}
use Rattle.icescan_shares.proofs.shares.rows_of_share.Given as goal

-- the rows so far, and those of what is left
abbrev pub invariant-rows : goal.invariant-rows
invariant-rows l = record {
  marks : l.marks.items ++ map (λ number. number == l.share.number)
      (shares_from l.share.count (total_weight l.rows) l.before (drop l.row-index l.rows))
      ≡ are_in_share l.share l.rows;
  whole : l.before + total_weight (drop l.row-index l.rows) ≡ total_weight l.rows;
  few : l.before ≤ 2147483648 * l.row-index;
}
