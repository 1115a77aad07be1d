use Rattle.std.proofs.Common.{◌≡◌, pos, [], ◌∷◌, ◌++◌, Ok, refl, ap, sym, ◌∙◌, arith}
use Rattle.std.proofs.lemmas.Result.{err_from_is_err_and}
use Rattle.std.proofs.lemmas.List.{map_push}
use Rattle.std.proofs.lemmas.Int.{ints}
use Rattle.avro_schema.specs.View.{tree}
use Rattle.avro_file.specs.View.{view, views, entry_views}
use Rattle.avro_file_parts.specs.Place.{position_of}
use Rattle.avro_file.specs.Reading.{entry_at, datum_at, branch_at}
use Rattle.avro_file.proofs.Views.{field_trees, branch_trees, tree-Record, branch_there, no_branch, structure_fails}
use Rattle.avro_file.proofs.Views.{structure_read, chosen_fails, is_chosen, view-Record, view-Union, tree-Map, view-Map}
use Rattle.avro_file.proofs.Views.{map_read, entry_read, key_fails, value_fails}
use Rattle.avro_file.specs.Value.{Value, nothing}
use Rattle.avro_file_parts.specs.Parts.{Position}
use Rattle.avro_file.proofs.Steps.{ok_is}
use Rattle.avro_file.specs.declared.pairs.Second.TheVariants as Second
use Rattle.avro_file.specs.Pairs.{IsPair}
use Rattle.avro_file.proofs.Leaves.{tree-Array}
use Rattle.avro_file.proofs.Paired.{as_bytes_pair, array_fails, view-Null, view-NullBranch, view-Repeated}
use Rattle.avro_file.proofs.Behind.{steady_value}
use Rattle.avro_file.proofs.Steady.{repeated_read, repeated_fails}
use Rattle.avro_file.proofs.Encoded.{view-Array}
use Rattle.avro_file.proofs.Loop.{values_on, values_fail, values_done, fields_on, fields_fail, fields_done, blocks_done}
use Rattle.avro_file.proofs.Loop.{count_fails, block_fails, blocks_on, shorter}
use Rattle.avro_file.proofs.Taken.{datum_takes, entry_takes}
use Rattle.avro_file.proofs.decode.+datum.Goals as goal

pub items_of-returns-in_err-value : goal.items_of-returns-in_err-value
items_of-returns-in_err-value t c =
    let p = err_from_is_err_and c.from_residual.result c.from_residual.ensures.1 in
    rw (p.1, p.2) (λ m. values_fail c.in_err-value.field-0.0 (datum_at (tree c.args.schema.now)) _ c.args.count
    c.items.counter _ _ c.items-test.true (c.in_err-value.ensures m) c.items.invariant)

pub items_of-items-preserved : goal.items_of-items-preserved
items_of-items-preserved t c =
    let e : views c.push.new.self.items ≡ views c.items.values.items ++ view c.in_ok-value.value ∷ [] =
    rw c.in_ok-push.ensures.items (map_push _ c.items.values.items c.in_ok-value.value) in
    rw e (values_on (datum_at (tree c.args.schema.now)) _ c.args.count c.items.counter _ _ _ _ c.items-test.true
    c.in_ok-value.ensures c.items.invariant)

pub items_of-returns : goal.items_of-returns
items_of-returns t c = values_done (datum_at (tree c.args.schema.now)) _ c.args.count c.items.counter _ _
    c.items-test.false c.items.invariant

pub array_of-returns-in_err-count : goal.array_of-returns-in_err-count
array_of-returns-in_err-count t c =
    let p = err_from_is_err_and c.from_residual.result c.from_residual.ensures.1 in
    rw (p.1, p.2) (λ m. count_fails c.in_err-count.field-0.0 (datum_at (tree c.args.schema.now)) _
    c.each_block.invariant.0 _ _ (omega (arith, c.each_block.invariant.1)) c.in_err-count.ensures
    c.each_block.invariant.2)

pub array_of-returns-then-count-eq0 : goal.array_of-returns-then-count-eq0
array_of-returns-then-count-eq0 t c = blocks_done _ _ c.each_block.invariant.0 _ _ _ _
    (omega (arith, c.each_block.invariant.1)) c.if-count-eq0.true c.in_ok-count.ensures c.each_block.invariant.2

pub array_of-returns-in_err-more : goal.array_of-returns-in_err-more
array_of-returns-in_err-more t c =
    let p = err_from_is_err_and c.from_residual-in_err-more.result c.from_residual-in_err-more.ensures.1 in
    rw (p.1, p.2) (λ m. block_fails c.in_err-more.field-0.0 (datum_at (tree c.args.schema.now)) _
    c.each_block.invariant.0 _ _ _ _ (omega (arith, c.each_block.invariant.1)) c.if-count-eq0.false
    c.in_ok-count.ensures (c.in_err-more.ensures m) c.each_block.invariant.2)

pub array_of-each_block-smaller : goal.array_of-each_block-smaller
array_of-each_block-smaller t c = shorter (datum_at (tree c.args.schema.now)) _ _ (datum_takes (tree c.args.schema.now))
    _ _ _ _ _ _ c.in_ok-count.ensures c.in_ok-more.ensures

pub array_of-each_block-preserved : goal.array_of-each_block-preserved
array_of-each_block-preserved t c =
    let i = c.each_block.invariant in
    let on = blocks_on (datum_at (tree c.args.schema.now)) _ i.0 _ _ _ _ _ _ (omega (arith, i.1)) c.if-count-eq0.false
    c.in_ok-count.ensures c.in_ok-more.ensures i.2 in
    let less = shorter (datum_at (tree c.args.schema.now)) _ _ (datum_takes (tree c.args.schema.now)) _ _ _ _ _ _
    c.in_ok-count.ensures c.in_ok-more.ensures in
    (on.fewer, omega (arith, i.1, less, on.one_less), on.so_far)

pub union_of-returns-then-position-branches : goal.union_of-returns-then-position-branches
union_of-returns-then-position-branches t c =
    let is : c.args.position ≡ pos c.in-Some.position = omega (arith, ints, c.in-Some.ensures) in
    rw is (λ _. rw (no_branch c.args.branches.now c.in-Some.position (position_of c.args.place)
    c.if-position-branches.true) refl)

pub union_of-returns-in_err-value : goal.union_of-returns-in_err-value
union_of-returns-in_err-value t c =
    let p = err_from_is_err_and c.from_residual.result c.from_residual.ensures.1 in
    let is : c.args.position ≡ pos c.in-Some.position = omega (arith, ints, c.in-Some.ensures) in
    let there = branch_there c.args.branches.now c.in-Some.position c.index-branches-position.result
    (position_of c.args.place) (omega arith) in
    let same = rw (← c.index-branches-position.is) at there in
    rw (p.1, p.2, is) (λ m. chosen_fails c.in_err-value.field-0.0 (branch_at (branch_trees c.args.branches.now))
    c.in-Some.position (position_of c.args.place) (rw same (c.in_err-value.ensures m)))

pub union_of-returns-in-Null : goal.union_of-returns-in-Null
union_of-returns-in-Null t c =
    let is : c.args.position ≡ pos c.in-Some.position = omega (arith, ints, c.in-Some.ensures) in
    let there = branch_there c.args.branches.now c.in-Some.position c.index-branches-position.result
    (position_of c.args.place) (omega arith) in
    let same = rw (← c.index-branches-position.is) at there in
    let null = ap (λ (v : Value). Ok (v, position_of c.in_ok-value.place)) (ap view c.in-Null.is ∙ view-Null) in
    rw (is, view-NullBranch c.in-Some.position) (is_chosen (branch_at (branch_trees c.args.branches.now))
    c.in-Some.position (position_of c.args.place) nothing _ (same ∙ c.in_ok-value.ensures ∙ null))

pub union_of-returns-in_ok-new-in_default-value : goal.union_of-returns-in_ok-new-in_default-value
union_of-returns-in_ok-new-in_default-value t c =
    let is : c.args.position ≡ pos c.in-Some.position = omega (arith, ints, c.in-Some.ensures) in
    let there = branch_there c.args.branches.now c.in-Some.position c.index-branches-position.result
    (position_of c.args.place) (omega arith) in
    let same = rw (← c.index-branches-position.is) at there in
    rw (is, view-Union c.in-Some.position c.in_ok-new-in_default-value.field-0, c.in_ok-new-in_default-value.ensures.ok)
    (is_chosen (branch_at (branch_trees c.args.branches.now)) c.in-Some.position (position_of c.args.place) _ _
    (same ∙ c.in_ok-value.ensures))

pub array_datum_of-returns-in_err-pairs-in-Some-Bytes : goal.array_datum_of-returns-in_err-pairs-in-Some-Bytes
array_datum_of-returns-in_err-pairs-in-Some-Bytes t c =
    let is : IsPair (tree c.args.schema.now) Second.Bytes = rw c.in-Some-Bytes.field-0-is at c.in-Some-Bytes.ensures in
    let p = err_from_is_err_and c.from_residual-in_err-pairs-in-Some-Bytes.result
    c.from_residual-in_err-pairs-in-Some-Bytes.ensures.1 in
    rw (p.1, p.2) (λ id kind m. array_fails c.in_err-pairs-in-Some-Bytes.field-0.0 (tree c.args.schema.now) id kind
    (position_of c.args.place) (rw (as_bytes_pair (tree c.args.schema.now) is) (c.in_err-pairs-in-Some-Bytes.ensures
    m)))

pub datum_of-returns-in-Array : goal.datum_of-returns-in-Array
datum_of-returns-in-Array t c =
    let here : c.deref-in-Array.result.now ≡ c.in-Array.items.value = c.deref-in-Array.ensures in
    rw (c.in-Array.is, tree-Array c.in-Array.items c.in-Array.field-1 c.in-Array.field-2, ← here)
    (c.array_datum_of.ensures c.in-Array.field-1 c.in-Array.field-2)

pub datum_of-returns-in_err-values-in-Record : goal.datum_of-returns-in_err-values-in-Record
datum_of-returns-in_err-values-in-Record t c =
    let p = err_from_is_err_and c.from_residual.result c.from_residual.ensures.1 in
    let here : c.deref.result.now ≡ c.in-Record.fields.value = c.deref.ensures in
    rw (p.1, p.2) (λ m. rw (c.in-Record.is, tree-Record c.in-Record.fields, ← here, ← c.deref-in-Record.ensures.value)
    (structure_fails c.in_err-values-in-Record.field-0.0 _ (position_of c.args.place)
    (c.in_err-values-in-Record.ensures m)))

pub datum_of-returns-in_ok-values-in-Record : goal.datum_of-returns-in_ok-values-in-Record
datum_of-returns-in_ok-values-in-Record t c =
    let here : c.deref.result.now ≡ c.in-Record.fields.value = c.deref.ensures in
    rw (
      c.in-Record.is,
      tree-Record c.in-Record.fields,
      ← here,
      ← c.deref-in-Record.ensures.value,
      view-Record
          c.in_ok-values-in-Record.values,
    ) (structure_read (field_trees c.deref-in-Record.result.now)
    (position_of c.args.place) _ _ c.in_ok-values-in-Record.ensures)

pub record_of-returns-in_err-value : goal.record_of-returns-in_err-value
record_of-returns-in_err-value t c =
    let p = err_from_is_err_and c.from_residual-in_err-value.result c.from_residual-in_err-value.ensures.1 in
    rw (p.1, p.2) (λ m. fields_fail c.in_err-value.field-0.0 c.args.fields.now c.fields.field-index c.field-item.result
    _ _ _ c.fields-test.true c.field-item.is (c.in_err-value.ensures m) c.fields.invariant)

pub record_of-fields-preserved : goal.record_of-fields-preserved
record_of-fields-preserved t c =
    let e : views c.push.new.self.items ≡ views c.fields.values.items ++ view c.in_ok-value.value ∷ [] =
    rw c.in_ok-push.ensures.items (map_push _ c.fields.values.items c.in_ok-value.value) in
    rw e (fields_on c.args.fields.now c.fields.field-index c.field-item.result _ _ _ _ _ c.fields-test.true
    c.field-item.is c.in_ok-value.ensures c.fields.invariant)

pub record_of-returns : goal.record_of-returns
record_of-returns t c = fields_done c.args.fields.now c.fields.field-index _ _ _ c.fields-test.false c.fields.invariant

pub entries_of-items-preserved : goal.entries_of-items-preserved
entries_of-items-preserved t c =
    let e : entry_views c.push.new.self.items ≡ entry_views c.items.values.items ++ (
      c.in_ok-key.key.now,
      view
          c.in_ok-value.value,
    ) ∷ [] = rw c.in_ok-push.ensures.items (map_push _ c.items.values.items
    (c.in_ok-key.key, c.in_ok-value.value)) in
    let one = entry_read (datum_at (tree c.args.schema.now)) (position_of c.items.here) _ _ _ _ c.in_ok-key.ensures
    c.in_ok-value.ensures in
    rw e (values_on (entry_at (datum_at (tree c.args.schema.now))) _ c.args.count c.items.counter _ _ _ _
    c.items-test.true one c.items.invariant)

pub entries_of-returns : goal.entries_of-returns
entries_of-returns t c = values_done (entry_at (datum_at (tree c.args.schema.now))) _ c.args.count c.items.counter _ _
    c.items-test.false c.items.invariant

pub map_of-returns-in_err-count : goal.map_of-returns-in_err-count
map_of-returns-in_err-count t c =
    let p = err_from_is_err_and c.from_residual.result c.from_residual.ensures.1 in
    rw (p.1, p.2) (λ m. count_fails c.in_err-count.field-0.0 (entry_at (datum_at (tree c.args.schema.now))) _
    c.each_block.invariant.0 _ _ (omega (arith, c.each_block.invariant.1)) c.in_err-count.ensures
    c.each_block.invariant.2)

pub map_of-returns-then-count-eq0 : goal.map_of-returns-then-count-eq0
map_of-returns-then-count-eq0 t c = blocks_done _ _ c.each_block.invariant.0 _ _ _ _
    (omega (arith, c.each_block.invariant.1)) c.if-count-eq0.true c.in_ok-count.ensures c.each_block.invariant.2

pub map_of-returns-in_err-more : goal.map_of-returns-in_err-more
map_of-returns-in_err-more t c =
    let p = err_from_is_err_and c.from_residual-in_err-more.result c.from_residual-in_err-more.ensures.1 in
    rw (p.1, p.2) (λ m. block_fails c.in_err-more.field-0.0 (entry_at (datum_at (tree c.args.schema.now))) _
    c.each_block.invariant.0 _ _ _ _ (omega (arith, c.each_block.invariant.1)) c.if-count-eq0.false
    c.in_ok-count.ensures (c.in_err-more.ensures m) c.each_block.invariant.2)

pub map_of-each_block-smaller : goal.map_of-each_block-smaller
map_of-each_block-smaller t c = shorter (entry_at (datum_at (tree c.args.schema.now))) _ _
    (entry_takes (datum_at (tree c.args.schema.now)) _ (datum_takes (tree c.args.schema.now))) _ _ _ _ _ _
    c.in_ok-count.ensures c.in_ok-more.ensures

pub map_of-each_block-preserved : goal.map_of-each_block-preserved
map_of-each_block-preserved t c =
    let i = c.each_block.invariant in
    let on = blocks_on (entry_at (datum_at (tree c.args.schema.now))) _ i.0 _ _ _ _ _ _ (omega (arith, i.1))
    c.if-count-eq0.false c.in_ok-count.ensures c.in_ok-more.ensures i.2 in
    let less = shorter (entry_at (datum_at (tree c.args.schema.now))) _ _
    (entry_takes (datum_at (tree c.args.schema.now)) _ (datum_takes (tree c.args.schema.now))) _ _ _ _ _ _
    c.in_ok-count.ensures c.in_ok-more.ensures in
    (on.fewer, omega (arith, i.1, less, on.one_less), on.so_far)

pub entries_of-returns-in_err-key : goal.entries_of-returns-in_err-key
entries_of-returns-in_err-key t c =
    let p = err_from_is_err_and c.from_residual.result c.from_residual.ensures.1 in
    rw (p.1, p.2) (λ m. values_fail c.in_err-key.field-0.0 (entry_at (datum_at (tree c.args.schema.now))) _ c.args.count
    c.items.counter _ _ c.items-test.true (key_fails c.in_err-key.field-0.0 (datum_at (tree c.args.schema.now))
    (position_of c.items.here) c.in_err-key.ensures) c.items.invariant)

pub entries_of-returns-in_err-value : goal.entries_of-returns-in_err-value
entries_of-returns-in_err-value t c =
    let p = err_from_is_err_and c.from_residual-in_err-value.result c.from_residual-in_err-value.ensures.1 in
    rw (p.1, p.2) (λ m. values_fail c.in_err-value.field-0.0 (entry_at (datum_at (tree c.args.schema.now))) _
    c.args.count c.items.counter _ _ c.items-test.true (value_fails c.in_err-value.field-0.0
    (datum_at (tree c.args.schema.now)) (position_of c.items.here) _ _ c.in_ok-key.ensures
    (c.in_err-value.ensures m)) c.items.invariant)

pub datum_of-returns-in_ok-entries-in-Map : goal.datum_of-returns-in_ok-entries-in-Map
datum_of-returns-in_ok-entries-in-Map t c =
    let here : c.deref-in-Map.result.now ≡ c.in-Map.values.value = c.deref-in-Map.ensures in
    rw (c.in-Map.is, tree-Map c.in-Map.values, ← here, view-Map c.in_ok-entries-in-Map.entries)
    (map_read (tree c.deref-in-Map.result.now) (position_of c.args.place) _ _ c.in_ok-entries-in-Map.ensures)

-- ---- items that take no bytes

pub repeated_of-returns-in_err-count : goal.repeated_of-returns-in_err-count
repeated_of-returns-in_err-count t c =
    let p = err_from_is_err_and c.from_residual.result c.from_residual.ensures.1 in
    let always = steady_value (tree c.args.schema.now) c.requires in
    rw (p.1, p.2) (λ id kind m. repeated_fails (tree c.args.schema.now) always.0 always.1 c.in_err-count.field-0.0 id
    kind (position_of c.args.place) c.in_err-count.ensures)

pub repeated_of-returns-then-count-eq0 : goal.repeated_of-returns-then-count-eq0
repeated_of-returns-then-count-eq0 t c =
    let always = steady_value (tree c.args.schema.now) c.requires in
    λ id kind. let read = repeated_read (tree c.args.schema.now) always.0 always.1 id kind (position_of c.args.place)
    c.in_ok-count.count _ c.in_ok-count.ensures in
    rw (view-Array c.new.result, c.new.ensures.items) (rw c.if-count-eq0.true at read)

pub repeated_of-returns-in_err-item : goal.repeated_of-returns-in_err-item
repeated_of-returns-in_err-item t c =
    let p = err_from_is_err_and c.from_residual-in_err-item.result c.from_residual-in_err-item.ensures.1 in
    let always = steady_value (tree c.args.schema.now) c.requires in
    rw (p.1, p.2) (λ id kind m. let same = sym (always.1 (position_of c.in_ok-count.after)) ∙ c.in_err-item.ensures m in
    absurd cc)

pub repeated_of-returns : goal.repeated_of-returns
repeated_of-returns t c =
    let always = steady_value (tree c.args.schema.now) c.requires in
    let same = ok_is _ _ (sym (always.1 (position_of c.in_ok-count.after)) ∙ c.in_ok-item.ensures) in
    let item : always.0 ≡ view c.in_ok-item.item = ap (λ (x : Value × Position). x.0) same in
    let count : c.in-Some.count.number ≡ c.in_ok-count.count = c.in-Some.ensures in
    λ id kind. rw (view-Repeated c.in-Some.count c.in_ok-new.field-0, c.in_ok-new.ensures.ok, count, ← item)
    (repeated_read (tree c.args.schema.now) always.0 always.1 id kind (position_of c.args.place) c.in_ok-count.count _
    c.in_ok-count.ensures)
