use Rattle.std.proofs.Common.{◌≡◌, ◌++◌, List, ℕ, ap, sym, ◌∙◌, append_assoc}
use Rattle.std.proofs.lemmas.List.{append-nil}
use Rattle.avro_file.specs.View.{view}
use Rattle.avro_file.proofs.Encoded.{array_written, map_written, union_written, made_on, made_over, long_pairs_written}
use Rattle.avro_file.proofs.Encoded.{bytes_pairs_written, repeated_written, times_on, times_over, pairs_on, pairs_over}
use Rattle.avro_file.proofs.encode.+write.Goals as goal

pub push_all-values-preserved : goal.push_all-values-preserved
push_all-values-preserved t c = made_on view c.args.values.now c.values.value-index c.value-item.result
    c.values.bytes.items c.in_ok-bytes.bytes.items _ c.values-test.true c.value-item.is c.in_ok-bytes.ensures
    c.values.invariant

pub push_all-returns : goal.push_all-returns
push_all-returns t c = sym (append-nil c.values.bytes.items) ∙ ap (λ (s : List ℕ). c.values.bytes.items ++ s)
    (sym (made_over view c.args.values.now c.values.value-index c.values-test.false)) ∙ c.values.invariant

pub push_datum-returns-in-Array : goal.push_datum-returns-in-Array
push_datum-returns-in-Array t c = rw (c.in-Array.is, array_written c.in-Array.items, ← c.deref-in-Array.ensures.value)
    c.push_items.ensures

pub push_datum-returns-in-LongPairs : goal.push_datum-returns-in-LongPairs
push_datum-returns-in-LongPairs t c = rw (
  c.in-LongPairs.is,
  long_pairs_written c.in-LongPairs.pairs,
  ←
      c.deref-in-LongPairs.ensures.value,
) c.push_long_pairs.ensures

pub push_datum-returns-in-BytesPairs : goal.push_datum-returns-in-BytesPairs
push_datum-returns-in-BytesPairs t c = rw (
  c.in-BytesPairs.is,
  bytes_pairs_written c.in-BytesPairs.pairs,
  ←
      c.deref-in-BytesPairs.ensures.value,
) c.push_bytes_pairs.ensures

pub push_datum-returns-in-Map : goal.push_datum-returns-in-Map
push_datum-returns-in-Map t c = rw (c.in-Map.is, map_written c.in-Map.entries, ← c.deref-in-Map.ensures.value)
    c.push_entries.ensures

pub push_datum-returns-in_ok-bytes-in-Union : goal.push_datum-returns-in_ok-bytes-in-Union
push_datum-returns-in_ok-bytes-in-Union t c =
    let here : c.deref-in-Union.result.now ≡ c.in-Union.value.value = c.deref-in-Union.ensures in
    rw (
      c.in-Union.is,
      union_written c.in-Union.position c.in-Union.value,
      ← here,
      ← append_assoc,
      ←
          c.in_ok-bytes-in-Union.ensures,
    ) c.push_datum.ensures

pub push_datum-returns-in-Repeated : goal.push_datum-returns-in-Repeated
push_datum-returns-in-Repeated t c =
    let here : c.deref-in-Repeated.result.now ≡ c.in-Repeated.item.value = c.deref-in-Repeated.ensures in
    rw (c.in-Repeated.is, repeated_written c.in-Repeated.count c.in-Repeated.item, ← here, ← c.get.ensures.same)
    c.push_repeated.ensures

pub push_times-times-preserved : goal.push_times-times-preserved
push_times-times-preserved t c = times_on (view c.args.item.now) c.args.count c.times.counter c.times.bytes.items
    c.in_ok-bytes.bytes.items _ c.times-test.true c.in_ok-bytes.ensures c.times.invariant

pub push_times-returns : goal.push_times-returns
push_times-returns t c = times_over (view c.args.item.now) c.args.count c.times.counter c.times.bytes.items _
    c.times-test.false c.times.invariant

pub push_pairs-pairs-preserved : goal.push_pairs-pairs-preserved
push_pairs-pairs-preserved t c =
    pairs_on c.args.pairs.now c.pairs.pair-index c.pair-item.result c.as_bytes.result.now c.pairs.bytes.items
    c.in_ok-bytes.bytes.items c.in_ok-bytes-2.bytes.items _ c.pairs-test.true c.pair-item.is
    c.as_bytes.ensures.value c.in_ok-bytes.ensures c.in_ok-bytes-2.ensures c.pairs.invariant

pub push_pairs-returns : goal.push_pairs-returns
push_pairs-returns t c = sym (append-nil c.pairs.bytes.items) ∙ ap (λ (s : List ℕ). c.pairs.bytes.items ++ s)
    (sym (pairs_over c.args.pairs.now c.pairs.pair-index c.pairs-test.false)) ∙ c.pairs.invariant
