use Rattle.std.proofs.Common.{◌≡◌, ◌++◌, drop}
use Rattle.avro_file.specs.View.{long_pairs}
use Rattle.avro_file.specs.Value.{values_of}
use Rattle.avro_file.specs.Writing.{all_written}
use Rattle.avro_file.proofs.encode.push_each_long_pair.Given as goal

abbrev pub invariant-pairs : goal.invariant-pairs
invariant-pairs l = l.bytes.items ++ all_written (values_of (long_pairs (drop l.pair-index l.pairs)))
    ≡ l.initial.bytes.items ++ all_written (values_of (long_pairs l.pairs))
