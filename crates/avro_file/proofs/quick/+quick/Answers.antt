use Rattle.std.proofs.Common.{◌≡◌, ◌++◌, ◌∷◌, [], suc, length, drop, refl, sym, arith}
use Rattle.avro_schema.specs.View.{tree}
use Rattle.avro_file.specs.Ending.{standing}
use Rattle.avro_file.specs.Reading.{entry_at, datum_at}
use Rattle.avro_file.proofs.Views.{field_trees, tree-Record, tree-Map, entry_read}
use Rattle.avro_file.proofs.Taken.{datum_takes, entry_takes}
use Rattle.avro_file.proofs.Leaves.{tree-Array}
use Rattle.avro_file.proofs.Loop.{values_on, values_done, fields_on, fields_done, blocks_done, blocks_on}
use Rattle.avro_file.proofs.Loop.{shorter}
use Rattle.avro_file.proofs.Behind.{behind_ok, behind_all, in_front, empty_values}
use Rattle.avro_file.specs.declared.pairs.Second.TheVariants as Second
use Rattle.avro_file.specs.Pairs.{IsPair}
use Rattle.avro_file.proofs.Paired.{as_long_pair, as_bytes_pair}
use Rattle.avro_file.proofs.Places.{some_weaker, structure_ends_there, array_ends_there, union_ends_there}
use Rattle.avro_file.proofs.Places.{map_ends_there}
use Rattle.avro_file.proofs.quick.+quick.Goals as goal

pub value_end-returns-in-Record : goal.value_end-returns-in-Record
value_end-returns-in-Record t c =
    let here : c.deref.result.now ≡ c.in-Record.fields.value = c.deref.ensures in
    rw (c.in-Record.is, tree-Record c.in-Record.fields, ← here, ← c.deref-in-Record.ensures.value)
    (structure_ends_there (field_trees c.deref-in-Record.result.now) c.args.bytes.now c.args.at c.args.left.now
    c.fields_end.new.left c.fields_end.result c.fields_end.ensures)

pub value_end-returns-in-Array : goal.value_end-returns-in-Array
value_end-returns-in-Array t c =
    let here : c.deref-in-Array.result.now ≡ c.in-Array.items.value = c.deref-in-Array.ensures in
    rw (c.in-Array.is, tree-Array c.in-Array.items c.in-Array.field-1 c.in-Array.field-2, ← here)
    (array_ends_there (tree c.deref-in-Array.result.now) c.in-Array.field-1 c.in-Array.field-2 c.args.bytes.now
    c.args.at c.args.left.now c.items_end.new.left c.items_end.result c.items_end.ensures)

pub fields_end-fields-preserved : goal.fields_end-fields-preserved
fields_end-fields-preserved t c =
    let i = c.fields.invariant in
    let e = c.in_ok-here.ensures in
    let v = behind_ok _ _ e.1 in (
      e.0,
      i.1 ++ v.0 ∷ [],
      fields_on c.args.fields.now c.fields.field-index c.field-item.result i.1 _ v.0 _ _
          c.fields-test.true c.field-item.is v.1 i.2,
    )

pub fields_end-returns : goal.fields_end-returns
fields_end-returns t c = let i = c.fields.invariant in
    (i.0, behind_all i.1 _ _ (fields_done c.args.fields.now c.fields.field-index i.1 _ _ c.fields-test.false i.2))

pub branch_end-returns : goal.branch_end-returns
branch_end-returns t c =
    union_ends_there c.args.branches.now c.args.bytes.now c.args.at c.number_at-value.result.0
    c.number_at-value.result.1 c.args.left.now c.value_end.new.left c.index-branches-value.result c.value_end.result
    (c.number_at-value.ensures c.if-start-eq0.false) c.if-value-ne0.false (omega (arith, c.if-value-branches.false))
    (rw (← c.index-branches-value.is) c.value_end.ensures)

pub items_end-each_block-init : goal.items_end-each_block-init
items_end-each_block-init t c =
    (c.requires, [], suc (length (drop c.args.at c.args.bytes.now)), omega arith, refl)

pub items_end-returns-then-count-eq0 : goal.items_end-returns-then-count-eq0
items_end-returns-then-count-eq0 t c =
    let i = c.each_block.invariant in
    let n = c.count_at-count.ensures c.if-start-eq0.false in (
      n.1,
      behind_all i.1 _ _ (blocks_done (datum_at (tree c.args.schema.now)) i.1 i.2 _ _ _ _ (omega (arith, i.3))
          c.if-count-eq0.true (n.2 c.each_block.left c.if-count-left.false) i.4),
    )

pub items_end-each_block-smaller : goal.items_end-each_block-smaller
items_end-each_block-smaller t c =
    let i = c.each_block.invariant in
    let n = c.count_at-count.ensures c.if-start-eq0.false in
    let more = in_front i.1 _ _ c.in_ok-here.ensures.1 in
    shorter (datum_at (tree c.args.schema.now)) _ _ (datum_takes (tree c.args.schema.now)) _ _ _ _ _ _
    (n.2 c.each_block.left c.if-count-left.false) more.1

pub items_end-each_block-preserved : goal.items_end-each_block-preserved
items_end-each_block-preserved t c =
    let i = c.each_block.invariant in
    let n = c.count_at-count.ensures c.if-start-eq0.false in
    let more = in_front i.1 _ _ c.in_ok-here.ensures.1 in
    let on = blocks_on (datum_at (tree c.args.schema.now)) i.1 i.2 _ _ _ _ _ _ (omega (arith, i.3)) c.if-count-eq0.false
    (n.2 c.each_block.left c.if-count-left.false) more.1 i.4 in
    let less = shorter (datum_at (tree c.args.schema.now)) _ _ (datum_takes (tree c.args.schema.now)) _ _ _ _ _ _
    (n.2 c.each_block.left c.if-count-left.false) more.1 in
    (c.in_ok-here.ensures.0, i.1 ++ more.0, on.fewer, omega (arith, i.3, less, on.one_less), on.so_far)

pub some_end-returns-then-not-takes_bytes : goal.some_end-returns-then-not-takes_bytes
some_end-returns-then-not-takes_bytes t c = (
  c.requires,
  empty_values (tree c.args.schema.now) c.args.count
      (standing c.args.bytes.now c.args.at c.args.left.now) (sym c.if-not-takes_bytes.ensures),
)

pub some_end-items-preserved : goal.some_end-items-preserved
some_end-items-preserved t c =
    let i = c.items.invariant in
    let e = c.in_ok-here.ensures in
    let v = behind_ok _ _ e.1 in (
      e.0,
      i.1 ++ v.0 ∷ [],
      values_on (datum_at (tree c.args.schema.now)) i.1 c.args.count c.items.counter _ v.0 _ _
          c.items-test.true v.1 i.2,
    )

pub some_end-returns : goal.some_end-returns
some_end-returns t c = let i = c.items.invariant in (
  i.0,
  behind_all i.1 _ _ (values_done (datum_at (tree c.args.schema.now)) i.1 c.args.count c.items.counter _ _
      c.items-test.false i.2),
)

pub some_end-returns-in-Some-Long : goal.some_end-returns-in-Some-Long
some_end-returns-in-Some-Long t c =
    let is : IsPair (tree c.args.schema.now) Second.Long = rw c.in-Some-Long.field-0-is at c.in-Some-Long.ensures in
    rw (as_long_pair (tree c.args.schema.now) is) (some_weaker c.long_pairs_end.result _ _
    (λ end ends. ends c.args.left.now) c.long_pairs_end.ensures)

pub some_end-returns-in-Some-Bytes : goal.some_end-returns-in-Some-Bytes
some_end-returns-in-Some-Bytes t c =
    let is : IsPair (tree c.args.schema.now) Second.Bytes = rw c.in-Some-Bytes.field-0-is at c.in-Some-Bytes.ensures in
    rw (as_bytes_pair (tree c.args.schema.now) is) (some_weaker c.bytes_pairs_end.result _ _
    (λ end ends. ends c.args.left.now) c.bytes_pairs_end.ensures)

-- ---- maps

pub value_end-returns-in-Map : goal.value_end-returns-in-Map
value_end-returns-in-Map t c =
    let here : c.deref-in-Map.result.now ≡ c.in-Map.values.value = c.deref-in-Map.ensures in
    rw (c.in-Map.is, tree-Map c.in-Map.values, ← here) (map_ends_there (tree c.deref-in-Map.result.now)
    c.args.bytes.now c.args.at c.args.left.now c.entries_end.new.left c.entries_end.result c.entries_end.ensures)

pub entries_end-each_block-init : goal.entries_end-each_block-init
entries_end-each_block-init t c =
    (c.requires, [], suc (length (drop c.args.at c.args.bytes.now)), omega arith, refl)

pub entries_end-returns-then-count-eq0 : goal.entries_end-returns-then-count-eq0
entries_end-returns-then-count-eq0 t c =
    let i = c.each_block.invariant in
    let n = c.count_at-count.ensures c.if-start-eq0.false in (
      n.1,
      behind_all i.1 _ _ (blocks_done (entry_at (datum_at (tree c.args.schema.now))) i.1 i.2 _ _ _ _
          (omega (arith, i.3)) c.if-count-eq0.true (n.2 c.each_block.left c.if-count-left.false) i.4),
    )

pub entries_end-each_block-smaller : goal.entries_end-each_block-smaller
entries_end-each_block-smaller t c =
    let i = c.each_block.invariant in
    let n = c.count_at-count.ensures c.if-start-eq0.false in
    let more = in_front i.1 _ _ c.in_ok-here.ensures.1 in
    shorter (entry_at (datum_at (tree c.args.schema.now))) _ _ (entry_takes (datum_at (tree c.args.schema.now)) _
    (datum_takes (tree c.args.schema.now))) _ _ _ _ _ _ (n.2 c.each_block.left c.if-count-left.false) more.1

pub entries_end-each_block-preserved : goal.entries_end-each_block-preserved
entries_end-each_block-preserved t c =
    let i = c.each_block.invariant in
    let n = c.count_at-count.ensures c.if-start-eq0.false in
    let read = entry_at (datum_at (tree c.args.schema.now)) in
    let takes = entry_takes (datum_at (tree c.args.schema.now)) _ (datum_takes (tree c.args.schema.now)) in
    let more = in_front i.1 _ _ c.in_ok-here.ensures.1 in
    let on = blocks_on read i.1 i.2 _ _ _ _ _ _ (omega (arith, i.3)) c.if-count-eq0.false
    (n.2 c.each_block.left c.if-count-left.false) more.1 i.4 in
    let less = shorter read _ _ takes _ _ _ _ _ _ (n.2 c.each_block.left c.if-count-left.false) more.1 in
    (c.in_ok-here.ensures.0, i.1 ++ more.0, on.fewer, omega (arith, i.3, less, on.one_less), on.so_far)

pub some_entries_end-items-preserved : goal.some_entries_end-items-preserved
some_entries_end-items-preserved t c =
    let i = c.items.invariant in
    let k = c.in_ok-value.ensures in
    let e = c.in_ok-here.ensures in
    let read = datum_at (tree c.args.schema.now) in
    let key = behind_ok _ _ k.2 in
    let v = behind_ok _ _ e.1 in
    let one = entry_read read (standing c.args.bytes.now c.items.here c.items.left) key.0 _ v.0 _ key.1 v.1 in (
      e.0,
      i.1 ++ (key.0, v.0) ∷ [],
      values_on (entry_at read) i.1 c.args.count c.items.counter _ _ _ _
          c.items-test.true one i.2,
    )

pub some_entries_end-returns : goal.some_entries_end-returns
some_entries_end-returns t c = let i = c.items.invariant in (
  i.0,
  behind_all i.1 _ _ (values_done (entry_at (datum_at (tree c.args.schema.now))) i.1 c.args.count c.items.counter _ _
      c.items-test.false i.2),
)
