use Rattle.std.proofs.Common.{◌≡◌, ◌≤◌, ◌+◌, ◌*◌, drop}
use Rattle.icescan_shares.specs.Shares.{total_weight}
use Rattle.icescan_shares.proofs.shares.total_weight.Given as goal

-- the rows so far, and those of what is left
abbrev pub invariant-rows : goal.invariant-rows
invariant-rows l = record {
  whole : l.total + total_weight (drop l.row-index l.rows) ≡ total_weight l.rows;
  few : l.total ≤ 2147483648 * l.row-index;
}
