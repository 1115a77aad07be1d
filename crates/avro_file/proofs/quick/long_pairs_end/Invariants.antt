use Rattle.std.proofs.Common.{◌≤◌, ◌-◌}
use Rattle.avro_file.proofs.Windows.{ArePairs}
use Rattle.avro_file.proofs.quick.long_pairs_end.Given as goal

-- all pairs but the rest were passed
abbrev pub invariant-pairs : goal.invariant-pairs
invariant-pairs l = (l.rest ≤ l.count) × ArePairs (l.count - l.rest) l.bytes l.at l.here

abbrev pub decreases-pairs : goal.decreases-pairs
decreases-pairs l = l.rest
