use Rattle.std.proofs.Common.{◌≡◌, ◌≤◌, take}
use Rattle.icescan_explain.specs.ToldRanges.{count_of}
use Rattle.icescan_explain.proofs.by_workers.front_with.Given as goal

abbrev pub invariant-rows : goal.invariant-rows
invariant-rows l = record {
  counted : l.count ≡ count_of l.tests (take l.i l.rows);
  few : l.count ≤ l.i;
}
