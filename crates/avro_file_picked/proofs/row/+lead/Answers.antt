use Rattle.std.proofs.Common.{◌≡◌, ◌+◌, ◌∷◌, drop, sym, arith, rules, w32}
use mir.Val.{to_z, of_z}
use Rattle.std.proofs.lemmas.Int.{to_z-of_z}
use Rattle.avro_schema.specs.View.{tree}
use Rattle.avro_file.proofs.Views.{field_trees}
use Rattle.avro_file_picked.proofs.Rows.{lens_on, reached_first, reached_next, reached_none, reached_there}
use Rattle.avro_file_picked.proofs.Rows.{reached_nowhere}
use Rattle.avro_file_picked.proofs.Rows.{reached_at, lead_within, lead_here}
use Rattle.avro_file_picked.proofs.row.+lead.Goals as goal

pub lead_below-fields-init : goal.lead_below-fields-init
lead_below-fields-init t c = (
  omega arith,
  λ bytes at left end after places vs inside few stand read. reached_first (to_z w32 (of_z w32 c.args.id))
      (field_trees c.args.fields.now) vs places bytes at left end after inside few stand read,
)

pub lead_below-returns-in_err-lead-clause-lead : goal.lead_below-returns-in_err-lead-clause-lead
lead_below-returns-in_err-lead-clause-lead t c = λ bytes at left end after places vs inside few stand read.
    let same : to_z w32 (of_z w32 c.args.id) ≡ c.args.id = to_z-of_z w32 c.args.id (search rules) in
    let r = reached_at (to_z w32 (of_z w32 c.args.id)) (field_trees c.args.fields.now) vs c.args.fields.now
    c.fields.field-index c.field-item.result places bytes end after c.fields.count c.fields-test.true c.field-item.is
    (c.fields.invariant.1 bytes at left end after places vs inside few stand read) in
    rw (c.from_residual.ensures, ← same)
    (reached_nowhere (to_z w32 (of_z w32 c.args.id)) (field_trees c.args.fields.now)
    vs c.field-item.result.id (tree c.field-item.result.schema) (field_trees (drop (c.fields.field-index + 1)
    c.args.fields.now)) places bytes end after c.fields.count c.args.field_path.now r (sym c.if-eq.ensures)
    c.in_err-lead.ensures.lead)

pub lead_below-returns-then-eq-clause-lead : goal.lead_below-returns-then-eq-clause-lead
lead_below-returns-then-eq-clause-lead t c = λ bytes at left end after places vs inside few stand read.
    let same : to_z w32 (of_z w32 c.args.id) ≡ c.args.id = to_z-of_z w32 c.args.id (search rules) in
    let r = reached_at (to_z w32 (of_z w32 c.args.id)) (field_trees c.args.fields.now) vs c.args.fields.now
    c.fields.field-index c.field-item.result places bytes end after c.fields.count c.fields-test.true c.field-item.is
    (c.fields.invariant.1 bytes at left end after places vs inside few stand read) in
    rw (← same) (reached_there (to_z w32 (of_z w32 c.args.id)) (field_trees c.args.fields.now) vs c.field-item.result.id
    (tree c.field-item.result.schema) (field_trees (drop (c.fields.field-index + 1) c.args.fields.now)) places bytes end
    after c.fields.count c.args.field_path.now c.in_ok-lead.lead r (sym c.if-eq.ensures) c.in_ok-lead.ensures.lead
    c.in_ok-lead.ensures.within.0)

pub lead_below-fields-preserved : goal.lead_below-fields-preserved
lead_below-fields-preserved t c =
    let more = lens_on c.args.fields.now c.fields.field-index c.field-item.result c.fields-test.true c.field-item.is in (
      omega (arith, c.fields.invariant.0, more, c.row_len-count.ensures),
      λ bytes at left end after places vs inside few stand read.
          let r = reached_at (to_z w32 (of_z w32 c.args.id)) (field_trees c.args.fields.now) vs c.args.fields.now
          c.fields.field-index c.field-item.result places bytes end after c.fields.count c.fields-test.true
          c.field-item.is (c.fields.invariant.1 bytes at left end after places vs inside few stand read) in
          reached_next (to_z w32 (of_z w32 c.args.id)) (field_trees c.args.fields.now) vs c.field-item.result.id
          (tree c.field-item.result.schema) (field_trees (drop (c.fields.field-index + 1) c.args.fields.now)) places
          bytes end after c.fields.count c.row_len-count.result r c.row_len-count.ensures (sym c.if-eq.ensures),
    )

pub lead_below-returns-clause-lead : goal.lead_below-returns-clause-lead
lead_below-returns-clause-lead t c = λ bytes at left end after places vs inside few stand read.
    let same : to_z w32 (of_z w32 c.args.id) ≡ c.args.id = to_z-of_z w32 c.args.id (search rules) in
    rw (← same) (reached_none (to_z w32 (of_z w32 c.args.id)) (field_trees c.args.fields.now) vs c.args.fields.now
    c.fields.field-index places bytes end after c.fields.count c.args.field_path.now c.fields-test.false
    (c.fields.invariant.1 bytes at left end after places vs inside few stand read))

pub lead_of-returns-in-Some-clause-lead : goal.lead_of-returns-in-Some-clause-lead
lead_of-returns-in-Some-clause-lead t c =
    let field_path : c.args.field_path.now ≡ c.in-Some.id.now ∷ c.in-Some.rest.now = c.in-Some.ensures.cases.0 in
    let same : to_z w32 (of_z w32 c.in-Some.id.now) ≡ c.in-Some.id.now = to_z-of_z w32 c.in-Some.id.now
    (search rules) in
    rw field_path (lead_within (tree c.args.schema.now)
    (field_trees c.fields_of.result.now) c.in-Some.id.now c.in-Some.rest.now
    c.lead_below.result (sym c.if-is_record.ensures) c.fields_of.ensures (rw same at c.lead_below.ensures.lead))

pub lead_of-returns-in_default-clause-lead : goal.lead_of-returns-in_default-clause-lead
lead_of-returns-in_default-clause-lead t c = lead_here c.args.schema c.args.field_path.now
