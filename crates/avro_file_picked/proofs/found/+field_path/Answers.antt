use Rattle.std.proofs.Common.{◌≡◌, ◌≤◌, ◌∷◌, [], pos, sym, ap, subst, arith, rules, w32}
use mir.Val.{to_z, of_z}
use Rattle.std.proofs.lemmas.List.{nil_from_length}
use Rattle.std.proofs.lemmas.Int.{ints, to_z-of_z}
use Rattle.avro_schema.specs.View.{tree}
use Rattle.avro_file_parts.specs.Place.{position_of}
use Rattle.avro_file.specs.Reading.{branch_at}
use Rattle.avro_file.specs.Picking.{Picked, unless_absent, pick}
use Rattle.avro_file.proofs.Views.{field_trees, branch_trees}
use Rattle.avro_file.proofs.Behind.{behind_ok, behind_err}
use Rattle.avro_file_picked.specs.Picked.{value_met}
use Rattle.avro_file_picked.specs.Finding.{LeadsTo}
use Rattle.avro_file_picked.proofs.Values.{fewer_left}
use Rattle.avro_file_picked.proofs.FieldPaths.{leads_more, null_at_end, present_at_end, onward_first, passed_field}
use Rattle.avro_file_picked.proofs.FieldPaths.{found_field}
use Rattle.avro_file_picked.proofs.FieldPaths.{no_field, chosen_read, number_fails, negative_fails, past_fails}
use Rattle.avro_file_picked.proofs.FieldPaths.{leads_chosen, leads_into, not_both, one_end}
use Rattle.avro_file_picked.proofs.found.+field_path.Goals as goal

pub place_on_field_path-returns-in_err-position : goal.place_on_field_path-returns-in_err-position
place_on_field_path-returns-in_err-position t c = λ v after e.
    absurd (number_fails (tree c.args.schema.now) (branch_trees c.in-Some.branches.now)
    (position_of c.args.place) after v
    c.in_err-position.field-0.0 (sym c.in-Some.ensures) c.in_err-position.ensures e)

pub place_on_field_path-returns-in_default-natural : goal.place_on_field_path-returns-in_default-natural
place_on_field_path-returns-in_default-natural t c = λ v after e.
    negative_fails (branch_at (branch_trees c.in-Some.branches.now)) c.in_ok-position.position _ after v
    (omega (arith, ints, c.in_default-natural.ensures)) (chosen_read (tree c.args.schema.now)
    (branch_trees c.in-Some.branches.now) (position_of c.args.place) after v c.in_ok-position.position
    c.in_ok-position.rest.now (sym c.in-Some.ensures) c.in_ok-position.ensures e)

pub place_on_field_path-returns-then-position-branches : goal.place_on_field_path-returns-then-position-branches
place_on_field_path-returns-then-position-branches t c = λ v after e.
    let is : c.in_ok-position.position ≡ pos c.in-Some-natural.position = omega
    (arith, ints, c.in-Some-natural.ensures) in
    let read = chosen_read (tree c.args.schema.now) (branch_trees c.in-Some.branches.now)
    (position_of c.args.place) after
    v c.in_ok-position.position c.in_ok-position.rest.now (sym c.in-Some.ensures) c.in_ok-position.ensures e in
    past_fails c.in-Some.branches.now c.in-Some-natural.position _ after v c.if-position-branches.true (rw is at read)

pub place_on_field_path-returns : goal.place_on_field_path-returns
place_on_field_path-returns t c = λ v after e.
    let is : c.in_ok-position.position ≡ pos c.in-Some-natural.position = omega
    (arith, ints, c.in-Some-natural.ensures) in
    let read = chosen_read (tree c.args.schema.now) (branch_trees c.in-Some.branches.now)
    (position_of c.args.place) after
    v c.in_ok-position.position c.in_ok-position.rest.now (sym c.in-Some.ensures) c.in_ok-position.ensures e in
    leads_chosen c.args.place.left c.args.field_path.now (tree c.args.schema.now) c.in-Some.branches.now
    c.in-Some-natural.position c.index-branches-position.result _ after v c.place_within-2.result
    (sym c.in-Some.ensures) c.if-position-branches.false (rw is at read)
    (rw (← c.index-branches-position.is) c.place_within-2.ensures)

pub place_within-returns-in-Some : goal.place_within-returns-in-Some
place_within-returns-in-Some t c = λ v after e.
    let field_path : c.args.field_path.now ≡ c.in-Some.id.now ∷ c.in-Some.rest.now = c.in-Some.ensures.cases.0 in
    let same : to_z w32 (of_z w32 c.in-Some.id.now) ≡ c.in-Some.id.now = to_z-of_z w32 c.in-Some.id.now
    (search rules) in
    rw field_path (leads_into c.args.place.left c.in-Some.id.now c.in-Some.rest.now (tree c.args.schema.now)
    (field_trees c.fields_of.result.now) (position_of c.args.place) after v c.place_below.result c.fields_of.ensures e
    (rw same at c.place_below.ensures))

pub place_within-returns-in-None : goal.place_within-returns-in-None
place_within-returns-in-None t c = λ v after e.
    let no_way : c.args.field_path.now ≡ [] = nil_from_length _ c.in-None.ensures.cases in
    rw no_way (null_at_end (tree c.args.schema.now) (position_of c.args.place) after v (sym c.if-is_null.ensures) e)

pub place_within-returns-in-None-2 : goal.place_within-returns-in-None-2
place_within-returns-in-None-2 t c = λ v after e.
    let no_way : c.args.field_path.now ≡ [] = nil_from_length _ c.in-None.ensures.cases in (
      v,
      (omega arith, after, e),
      rw no_way (present_at_end (tree c.args.schema.now) (position_of c.args.place) after v (sym c.if-is_null.ensures)
          e),
    )

pub place_below-returns-then-eq : goal.place_below-returns-then-eq
place_below-returns-then-eq t c = λ vs after e.
    let same : to_z w32 (of_z w32 c.args.id) ≡ c.args.id = to_z-of_z w32 c.args.id (search rules) in
    let i = c.fields.invariant in
    let o = i.1 vs after e in
    let first = onward_first (to_z w32 (of_z w32 c.args.id)) (field_trees c.args.fields.now) vs c.args.fields.now
    c.fields.field-index c.field-item.result (position_of c.fields.here) after c.fields-test.true c.field-item.is o in
    let there = found_field (to_z w32 (of_z w32 c.args.id)) (field_trees c.args.fields.now) vs c.args.fields.now
    c.fields.field-index c.field-item.result
    (position_of c.fields.here) after c.fields-test.true c.field-item.is o first
    (sym c.if-eq.ensures) in
    let on = leads_more c.fields.here.left c.args.place.left (pick c.args.field_path.now (
      tree c.field-item.result.schema,
      first.first,
    )) c.place_on_field_path.result i.0 (c.place_on_field_path.ensures first.first first.between first.read) in
    rw (← same) (subst (λ (met : Picked). LeadsTo c.args.place.left met c.place_on_field_path.result)
    (sym (ap (unless_absent (pick c.args.field_path.now)) there)) on)

pub place_below-returns-in_err-here : goal.place_below-returns-in_err-here
place_below-returns-in_err-here t c = λ vs after e.
    let o = c.fields.invariant.1 vs after e in
    let first = onward_first (to_z w32 (of_z w32 c.args.id)) (field_trees c.args.fields.now) vs c.args.fields.now
    c.fields.field-index c.field-item.result (position_of c.fields.here) after c.fields-test.true c.field-item.is o in
    let fails = behind_err _ _ c.in_err-here.ensures in
    absurd (not_both _ _ _ first.read fails)

pub place_below-fields-preserved : goal.place_below-fields-preserved
place_below-fields-preserved t c =
    let i = c.fields.invariant in
    let read = behind_ok _ _ c.in_ok-here.ensures in
    let fewer : c.in_ok-here.here.left ≤ c.fields.here.left = fewer_left (tree c.field-item.result.schema)
    (position_of c.fields.here) read.0 (position_of c.in_ok-here.here) read.1 in (
      omega (arith, i.0, fewer),
      λ vs after e.
          let o = i.1 vs after e in
          let first = onward_first (to_z w32 (of_z w32 c.args.id)) (field_trees c.args.fields.now) vs c.args.fields.now
          c.fields.field-index c.field-item.result (position_of c.fields.here) after c.fields-test.true c.field-item.is
          o in
          passed_field (to_z w32 (of_z w32 c.args.id)) (field_trees c.args.fields.now) vs c.args.fields.now
          c.fields.field-index c.field-item.result (position_of c.fields.here) after c.fields-test.true c.field-item.is
          o (position_of c.in_ok-here.here) first (one_end _ _ _ _ _ first.read read.1) (sym c.if-eq.ensures),
    )

pub place_below-returns : goal.place_below-returns
place_below-returns t c = λ vs after e.
    let same : to_z w32 (of_z w32 c.args.id) ≡ c.args.id = to_z-of_z w32 c.args.id (search rules) in
    let o = c.fields.invariant.1 vs after e in
    rw (← same) (ap (λ o. value_met (unless_absent (pick c.args.field_path.now) o))
    (no_field (to_z w32 (of_z w32 c.args.id))
    (field_trees c.args.fields.now) vs c.args.fields.now c.fields.field-index (position_of c.fields.here) after
    c.fields-test.false o))
