use Rattle.std.proofs.Common.{◌≡◌, ◌+◌, ◌≤◌, drop}
use Rattle.ice_meta_files.specs.Newest.{climbed}
use Rattle.ice_meta_files.proofs.newest.climbed.Given as goal

-- where the steps so far lead, the others lead to where all do; each adds 1 at most
abbrev pub invariant-turns : goal.invariant-turns
invariant-turns l = record {
  leads : climbed l.names (drop l.turn-index l.names) l.last ≡ climbed l.names l.names l.fn.number;
  low : l.last ≤ l.fn.number + l.turn-index;
}
