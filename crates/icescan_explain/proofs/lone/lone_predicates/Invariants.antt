use Rattle.std.proofs.Common.{◌≡◌, ◌++◌, ◌≤◌, drop}
use Rattle.icescan_explain.specs.Alone.{lone_predicates}
use Rattle.icescan_explain.proofs.lone.lone_predicates.Given as goal

abbrev pub invariant-parts : goal.invariant-parts
invariant-parts l = record {
  told : l.lone ++ lone_predicates l.columns l.at (drop l.part-index l.parts) ≡ lone_predicates l.columns 0 l.parts;
  few : l.at ≤ l.part-index;
}
