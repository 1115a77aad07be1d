use Rattle.std.proofs.Common.{◌≡◌, ◌++◌, ◌∷◌, [], suc, length, pos, ap, refl, sym, ◌∙◌, arith}
use Rattle.std.proofs.lemmas.Result.{err_from_is_err_and}
use Rattle.std.proofs.lemmas.Int.{ints}
use Rattle.avro_schema.specs.View.{tree}
use Rattle.avro_file.specs.Value.{Value}
use Rattle.avro_file_parts.specs.Place.{position_of}
use Rattle.avro_file_parts.specs.Parts.{Read, behind}
use Rattle.avro_file.specs.Reading.{entry_at, datum_at, branch_at}
use Rattle.avro_file.proofs.Views.{field_trees, branch_trees, tree-Record, branch_there, no_branch, entry_read}
use Rattle.avro_file.proofs.Views.{key_fails, value_fails}
use Rattle.avro_file.proofs.Taken.{datum_takes, entry_takes}
use Rattle.avro_file.proofs.Loop.{values_on, values_fail, values_done, fields_on, fields_fail, fields_done, blocks_done}
use Rattle.avro_file.proofs.Loop.{count_fails, block_fails, blocks_on, shorter}
use Rattle.avro_file.proofs.Behind.{same_read, behind_ok, behind_err, behind_all, behind_none, in_front, none_in}
use Rattle.avro_file.proofs.Behind.{structure_ends, chosen_ends, empty_values}
use Rattle.avro_file.proofs.ends.+end.Goals as goal

pub end_of-returns-in-Record : goal.end_of-returns-in-Record
end_of-returns-in-Record t c =
    let here : c.deref.result.now ≡ c.in-Record.fields.value = c.deref.ensures in
    rw (
      c.in-Record.is,
      tree-Record c.in-Record.fields,
      ← here,
      ← c.deref-in-Record.ensures.value,
      structure_ends
          (field_trees c.deref-in-Record.result.now) (position_of c.args.place),
    ) c.end_of_fields.ensures

-- ---- the branch of a union

pub end_of_branch-returns-then-position-branches : goal.end_of_branch-returns-then-position-branches
end_of_branch-returns-then-position-branches t c =
    let is : c.args.position ≡ pos c.in-Some.position = omega (arith, ints, c.in-Some.ensures) in
    rw is (rw (no_branch c.args.branches.now c.in-Some.position (position_of c.args.place) c.if-position-branches.true)
    refl)

pub end_of_branch-returns : goal.end_of_branch-returns
end_of_branch-returns t c =
    let is : c.args.position ≡ pos c.in-Some.position = omega (arith, ints, c.in-Some.ensures) in
    let there = branch_there c.args.branches.now c.in-Some.position c.index-branches-position.result
    (position_of c.args.place) (omega arith) in
    let same = rw (← c.index-branches-position.is) at there in
    rw is (same_read position_of c.end_of.result _ _ (sym (chosen_ends (branch_at (branch_trees c.args.branches.now))
    c.in-Some.position (position_of c.args.place) ∙ ap (λ (r : Read Value). behind r) same)) c.end_of.ensures)

-- ---- the fields of a record

pub end_of_fields-returns-in_err-here : goal.end_of_fields-returns-in_err-here
end_of_fields-returns-in_err-here t c =
    let p = err_from_is_err_and c.from_residual.result c.from_residual.ensures.1 in
    let i = c.fields.invariant in
    rw (p.1, p.2) (behind_none _ _ (fields_fail c.in_err-here.field-0.0 c.args.fields.now c.fields.field-index
    c.field-item.result i.0 _ _ c.fields-test.true c.field-item.is (behind_err _ _ c.in_err-here.ensures) i.1))

pub end_of_fields-fields-preserved : goal.end_of_fields-fields-preserved
end_of_fields-fields-preserved t c =
    let i = c.fields.invariant in
    let v = behind_ok _ _ c.in_ok-here.ensures in (
      i.0 ++ v.0 ∷ [],
      fields_on c.args.fields.now c.fields.field-index c.field-item.result i.0 _ v.0 _ _
          c.fields-test.true c.field-item.is v.1 i.1,
    )

pub end_of_fields-returns : goal.end_of_fields-returns
end_of_fields-returns t c = let i = c.fields.invariant in behind_all i.0 _ _ (fields_done c.args.fields.now
    c.fields.field-index i.0 _ _ c.fields-test.false i.1)

-- ---- the items of an array

pub end_of_some-returns-then-not-takes_bytes : goal.end_of_some-returns-then-not-takes_bytes
end_of_some-returns-then-not-takes_bytes t c = empty_values (tree c.args.schema.now) c.args.count
    (position_of c.args.place) (sym c.if-not-takes_bytes.ensures)

pub end_of_some-returns-in_err-here : goal.end_of_some-returns-in_err-here
end_of_some-returns-in_err-here t c =
    let p = err_from_is_err_and c.from_residual.result c.from_residual.ensures.1 in
    let i = c.items.invariant in
    rw (p.1, p.2) (behind_none _ _ (values_fail c.in_err-here.field-0.0 (datum_at (tree c.args.schema.now)) i.0
    c.args.count c.items.counter _ _ c.items-test.true (behind_err _ _ c.in_err-here.ensures) i.1))

pub end_of_some-items-preserved : goal.end_of_some-items-preserved
end_of_some-items-preserved t c =
    let i = c.items.invariant in
    let v = behind_ok _ _ c.in_ok-here.ensures in (
      i.0 ++ v.0 ∷ [],
      values_on (datum_at (tree c.args.schema.now)) i.0 c.args.count c.items.counter _ v.0 _ _
          c.items-test.true v.1 i.1,
    )

pub end_of_some-returns : goal.end_of_some-returns
end_of_some-returns t c = let i = c.items.invariant in
    behind_all i.0 _ _ (values_done (datum_at (tree c.args.schema.now)) i.0 c.args.count c.items.counter _ _
    c.items-test.false i.1)

pub end_of_items-each_block-init : goal.end_of_items-each_block-init
end_of_items-each_block-init t c = ([], suc (length c.args.place.bytes.now), omega arith, refl)

pub end_of_items-returns-in_err-count : goal.end_of_items-returns-in_err-count
end_of_items-returns-in_err-count t c =
    let p = err_from_is_err_and c.from_residual.result c.from_residual.ensures.1 in
    let i = c.each_block.invariant in
    rw (p.1, p.2) (behind_none _ _ (count_fails c.in_err-count.field-0.0 (datum_at (tree c.args.schema.now)) i.0 i.1 _ _
    (omega (arith, i.2)) c.in_err-count.ensures i.3))

pub end_of_items-returns-then-count-eq0 : goal.end_of_items-returns-then-count-eq0
end_of_items-returns-then-count-eq0 t c =
    let i = c.each_block.invariant in
    behind_all i.0 _ _ (blocks_done (datum_at (tree c.args.schema.now)) i.0 i.1 _ _ _ _ (omega (arith, i.2))
    c.if-count-eq0.true c.in_ok-count.ensures i.3)

pub end_of_items-returns-in_err-here : goal.end_of_items-returns-in_err-here
end_of_items-returns-in_err-here t c =
    let p = err_from_is_err_and c.from_residual-in_err-here.result c.from_residual-in_err-here.ensures.1 in
    let i = c.each_block.invariant in
    rw (p.1, p.2) (behind_none _ _ (block_fails c.in_err-here.field-0.0 (datum_at (tree c.args.schema.now)) i.0 i.1 _ _
    _ _ (omega (arith, i.2)) c.if-count-eq0.false c.in_ok-count.ensures (none_in i.0 _ _ c.in_err-here.ensures)
    i.3))

pub end_of_items-each_block-smaller : goal.end_of_items-each_block-smaller
end_of_items-each_block-smaller t c =
    let more = in_front c.each_block.invariant.0 _ _ c.in_ok-here.ensures in
    shorter (datum_at (tree c.args.schema.now)) _ _ (datum_takes (tree c.args.schema.now)) _ _ _ _ _ _
    c.in_ok-count.ensures more.1

pub end_of_items-each_block-preserved : goal.end_of_items-each_block-preserved
end_of_items-each_block-preserved t c =
    let i = c.each_block.invariant in
    let more = in_front i.0 _ _ c.in_ok-here.ensures in
    let on = blocks_on (datum_at (tree c.args.schema.now)) i.0 i.1 _ _ _ _ _ _ (omega (arith, i.2)) c.if-count-eq0.false
    c.in_ok-count.ensures more.1 i.3 in
    let less = shorter (datum_at (tree c.args.schema.now)) _ _ (datum_takes (tree c.args.schema.now)) _ _ _ _ _ _
    c.in_ok-count.ensures more.1 in
    (i.0 ++ more.0, on.fewer, omega (arith, i.2, less, on.one_less), on.so_far)

-- ---- the entries of a map

pub end_of_some_entries-returns-in_err-rest : goal.end_of_some_entries-returns-in_err-rest
end_of_some_entries-returns-in_err-rest t c =
    let p = err_from_is_err_and c.from_residual.result c.from_residual.ensures.1 in
    let i = c.items.invariant in
    let read = datum_at (tree c.args.schema.now) in
    rw (p.1, p.2) (behind_none _ _ (values_fail c.in_err-rest.field-0.0 (entry_at read) i.0 c.args.count c.items.counter
    _ _ c.items-test.true (key_fails c.in_err-rest.field-0.0 read (position_of c.items.here) c.in_err-rest.ensures)
    i.1))

pub end_of_some_entries-returns-in_err-here : goal.end_of_some_entries-returns-in_err-here
end_of_some_entries-returns-in_err-here t c =
    let p = err_from_is_err_and c.from_residual-in_err-here.result c.from_residual-in_err-here.ensures.1 in
    let i = c.items.invariant in
    let read = datum_at (tree c.args.schema.now) in
    rw (p.1, p.2) (behind_none _ _ (values_fail c.in_err-here.field-0.0 (entry_at read) i.0 c.args.count c.items.counter
    _ _ c.items-test.true (value_fails c.in_err-here.field-0.0 read (position_of c.items.here) _ _
    c.in_ok-rest.ensures (behind_err _ _ c.in_err-here.ensures)) i.1))

pub end_of_some_entries-items-preserved : goal.end_of_some_entries-items-preserved
end_of_some_entries-items-preserved t c =
    let i = c.items.invariant in
    let read = datum_at (tree c.args.schema.now) in
    let v = behind_ok _ _ c.in_ok-here.ensures in
    let one = entry_read read (position_of c.items.here) _ _ v.0 _ c.in_ok-rest.ensures v.1 in
    (i.0 ++ (_, v.0) ∷ [], values_on (entry_at read) i.0 c.args.count c.items.counter _ _ _ _ c.items-test.true one i.1)

pub end_of_some_entries-returns : goal.end_of_some_entries-returns
end_of_some_entries-returns t c = let i = c.items.invariant in
    behind_all i.0 _ _ (values_done (entry_at (datum_at (tree c.args.schema.now))) i.0 c.args.count c.items.counter _ _
    c.items-test.false i.1)

pub end_of_entries-each_block-init : goal.end_of_entries-each_block-init
end_of_entries-each_block-init t c = ([], suc (length c.args.place.bytes.now), omega arith, refl)

pub end_of_entries-returns-in_err-count : goal.end_of_entries-returns-in_err-count
end_of_entries-returns-in_err-count t c =
    let p = err_from_is_err_and c.from_residual.result c.from_residual.ensures.1 in
    let i = c.each_block.invariant in
    rw (p.1, p.2) (behind_none _ _ (count_fails c.in_err-count.field-0.0 (entry_at (datum_at (tree c.args.schema.now)))
    i.0 i.1 _ _ (omega (arith, i.2)) c.in_err-count.ensures i.3))

pub end_of_entries-returns-then-count-eq0 : goal.end_of_entries-returns-then-count-eq0
end_of_entries-returns-then-count-eq0 t c =
    let i = c.each_block.invariant in
    behind_all i.0 _ _ (blocks_done (entry_at (datum_at (tree c.args.schema.now))) i.0 i.1 _ _ _ _ (omega (arith, i.2))
    c.if-count-eq0.true c.in_ok-count.ensures i.3)

pub end_of_entries-returns-in_err-here : goal.end_of_entries-returns-in_err-here
end_of_entries-returns-in_err-here t c =
    let p = err_from_is_err_and c.from_residual-in_err-here.result c.from_residual-in_err-here.ensures.1 in
    let i = c.each_block.invariant in
    rw (p.1, p.2) (behind_none _ _ (block_fails c.in_err-here.field-0.0 (entry_at (datum_at (tree c.args.schema.now)))
    i.0 i.1 _ _ _ _ (omega (arith, i.2)) c.if-count-eq0.false c.in_ok-count.ensures
    (none_in i.0 _ _ c.in_err-here.ensures) i.3))

pub end_of_entries-each_block-smaller : goal.end_of_entries-each_block-smaller
end_of_entries-each_block-smaller t c =
    let more = in_front c.each_block.invariant.0 _ _ c.in_ok-here.ensures in
    shorter (entry_at (datum_at (tree c.args.schema.now))) _ _ (entry_takes (datum_at (tree c.args.schema.now)) _
    (datum_takes (tree c.args.schema.now))) _ _ _ _ _ _ c.in_ok-count.ensures more.1

pub end_of_entries-each_block-preserved : goal.end_of_entries-each_block-preserved
end_of_entries-each_block-preserved t c =
    let i = c.each_block.invariant in
    let more = in_front i.0 _ _ c.in_ok-here.ensures in
    let on = blocks_on (entry_at (datum_at (tree c.args.schema.now))) i.0 i.1 _ _ _ _ _ _ (omega (arith, i.2))
    c.if-count-eq0.false c.in_ok-count.ensures more.1 i.3 in
    let less = shorter (entry_at (datum_at (tree c.args.schema.now))) _ _
    (entry_takes (datum_at (tree c.args.schema.now)) _ (datum_takes (tree c.args.schema.now))) _ _ _ _ _ _
    c.in_ok-count.ensures more.1 in
    (i.0 ++ more.0, on.fewer, omega (arith, i.2, less, on.one_less), on.so_far)
