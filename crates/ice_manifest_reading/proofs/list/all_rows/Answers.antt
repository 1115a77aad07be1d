use Rattle.std.proofs.Common.{sym, ◌∙◌, refl, [], ◌∷◌, ◌++◌}
use Rattle.std.proofs.lemmas.Result.{err_from_is_err_and}
use Rattle.avro_file.specs.Files.{ahead}
use Rattle.avro_file_picked.specs.Finding.{layout_tree}
use Rattle.ice_manifest_fields.specs.Schemas.{fields_in}
use Rattle.ice_manifest_fields.proofs.Joining.{joined}
use Rattle.ice_manifest_reading.proofs.Reading.{fewer, no_row, rows_end}
use Rattle.ice_manifest_reading.proofs.Found.{shown_next}
use Rattle.ice_manifest_reading.proofs.FoundRows.{row_read, row_at_fault}
use Rattle.ice_manifest_reading.proofs.Gathered.{itself_same, push_same}
use Rattle.ice_manifest_reading.proofs.list.all_rows.Goals as goal

pub objects-init : goal.objects-init
unfolding joined
objects-init c = (
  [],
  refl,
  rw (c.new-rows.ensures.items) (itself_same []),
  c.requires.schema,
  c.in_ok-places.ensures,
)

pub row_of-requires : goal.row_of-requires
row_of-requires c =
    let next = rw c.in-Some.is at c.in_ok-object.ensures.next in
    let placed = rw c.in-Some.is at c.in_ok-object.ensures.placed in (
      c.requires.field_paths,
      placed,
      shown_next (ahead c.objects.reader) (ahead c.next_placed.new.objects) c.in-Some.object next,
    )

pub returns-in_err-object : goal.returns-in_err-object
returns-in_err-object c =
    let p = err_from_is_err_and c.from_residual-in_err-object.result c.from_residual-in_err-object.ensures.1 in
    rw (p.1, p.2) (λ other. sym c.objects.invariant.1 ∙ rows_end (fields_in (layout_tree c.args.layout.now))
    c.objects.invariant.0 (ahead c.objects.reader) (ahead c.next_placed.new.objects) _ c.in_err-object.ensures.next)

pub returns-in_err-row_of : goal.returns-in_err-row_of
returns-in_err-row_of c =
    let p = err_from_is_err_and c.from_residual-in_err-row_of.result c.from_residual-in_err-row_of.ensures.1 in
    let next = rw c.in-Some.is at c.in_ok-object.ensures.next in
    let placed = rw c.in-Some.is at c.in_ok-object.ensures.placed in
    rw (p.1, p.2) (λ other. sym c.objects.invariant.1 ∙ row_at_fault (layout_tree c.args.layout.now)
    c.objects.invariant.0 (ahead c.objects.reader) (ahead c.next_placed.new.objects) _ _ next placed.1
    c.requires.records (c.in_err-row_of.ensures other))

pub objects-smaller : goal.objects-smaller
objects-smaller c = fewer (ahead c.objects.reader) (ahead c.next_placed.new.objects) c.in-Some.object
    (rw c.in-Some.is at c.in_ok-object.ensures.next)

pub objects-preserved : goal.objects-preserved
objects-preserved c =
    let next = rw c.in-Some.is at c.in_ok-object.ensures.next in
    let placed = rw c.in-Some.is at c.in_ok-object.ensures.placed in (
      c.objects.invariant.0 ++ c.in_ok-row_of.field-0 ∷ [],
      sym (row_read (layout_tree c.args.layout.now) c.objects.invariant.0 (ahead c.objects.reader)
          (ahead c.next_placed.new.objects) _ _ next placed.1 c.requires.records c.in_ok-row_of.ensures)
          ∙ c.objects.invariant.1,
      push_same c.objects.invariant.0 c.objects.rows.items _ _ c.objects.invariant.2 c.in_ok-put_row.ensures,
      c.objects.invariant.3 ∙ sym c.in_ok-object.ensures.schema,
      c.in_ok-object.ensures.fits,
    )

pub returns : goal.returns
returns c = (
  c.objects.invariant.0,
  sym c.objects.invariant.1 ∙ no_row (fields_in (layout_tree c.args.layout.now)) c.objects.invariant.0
      (ahead c.objects.reader) (ahead c.next_placed.new.objects) _ c.in_ok-object.ensures.next
      c.in_default.not-Some,
  c.objects.invariant.2,
)
