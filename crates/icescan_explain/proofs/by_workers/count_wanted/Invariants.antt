use Rattle.std.proofs.Common.{◌≡◌, ◌≤◌, take}
use Rattle.icescan_explain.specs.ToldRanges.{count_of}
use Rattle.icescan_explain.proofs.by_workers.count_wanted.Given as goal

abbrev pub invariant-rows : goal.invariant-rows
invariant-rows l = record {
  counted : l.count ≡ count_of l.tests (take l.row-index l.rows);
  few : l.count ≤ l.row-index;
}
