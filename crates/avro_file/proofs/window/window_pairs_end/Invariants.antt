use Rattle.avro_file.proofs.Windows.{PairOn}
use Rattle.avro_file.proofs.window.window_pairs_end.Given as goal

-- the pairs so far end where the bits that are left begin
abbrev pub invariant-pairs : goal.invariant-pairs
invariant-pairs l = PairOn l.bytes l.at l.pairs l.ends l.here
