use Rattle.std.proofs.Common.{◌≡◌, ◌++◌, ◌-◌, drop, replicate}
use Rattle.avro_file.specs.View.{view, views, entry_views}
use Rattle.avro_file.specs.Value.{values_of, entries_of}
use Rattle.avro_file.specs.Writing.{all_written, entries_written}
use Rattle.avro_file.proofs.encode.+write.Given as goal

abbrev pub invariant-push_all-values : goal.invariant-push_all-values
invariant-push_all-values l = l.bytes.items ++ all_written (values_of (views (drop l.value-index l.values)))
    ≡ l.initial.bytes.items ++ all_written (values_of (views l.values))

abbrev pub invariant-push_pairs-pairs : goal.invariant-push_pairs-pairs
invariant-push_pairs-pairs l = l.bytes.items ++ entries_written (entries_of (entry_views (drop l.pair-index l.pairs)))
    ≡ l.initial.bytes.items ++ entries_written (entries_of (entry_views l.pairs))

abbrev pub invariant-push_times-times : goal.invariant-push_times-times
invariant-push_times-times l =
    l.bytes.items ++ all_written (values_of (replicate (l.count - l.counter) (view l.item)))
    ≡ l.initial.bytes.items ++ all_written (values_of (replicate l.count (view l.item)))
