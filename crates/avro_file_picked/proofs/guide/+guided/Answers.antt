use Rattle.std.proofs.Common.{◌≡◌, ◌≤◌, ◌<◌, ◌+◌, ◌∷◌, [], Ok, None, Some, Option, true, false, length, drop, get_or}
use Rattle.std.proofs.Common.{pos, sym}
use Rattle.std.proofs.Common.{refl, ap, subst, arith, rules, w32}
use mir.Val.{to_z, of_z}
use Rattle.std.proofs.lemmas.List.{nil_from_length}
use Rattle.std.proofs.lemmas.Int.{ints, to_z-of_z}
use Rattle.std.specs.Ordering.{int_eq}
use Rattle.std.specs.Option.{option_eq}
use Rattle.avro_schema.specs.Tree.{no_fields}
use Rattle.avro_schema.specs.View.{tree}
use Rattle.avro_file_parts.specs.Place.{position_of}
use Rattle.avro_file.specs.Reading.{branch_at}
use Rattle.avro_file.specs.Picking.{Typed, Picked, unless_absent, pick}
use Rattle.avro_file.proofs.Views.{branch_trees}
use Rattle.avro_file.proofs.Behind.{behind_ok}
use Rattle.avro_file_picked.specs.declared.guide.Guide.{Guide, out-Guide}
use Rattle.avro_file_picked.specs.Picked.{value_met}
use Rattle.avro_file_picked.specs.Finding.{fields_in}
use Rattle.avro_file_picked.specs.Guides.{seen, all_seen, kept, type_guided, id_guided, IsGuide, AreParts, GuidesTo}
use Rattle.avro_file_picked.proofs.Values.{fewer_left}
use Rattle.avro_file_picked.proofs.FieldPaths.{pick_itself, null_at_end, present_at_end, chosen_read, number_fails}
use Rattle.avro_file_picked.proofs.FieldPaths.{negative_fails, past_fails, met_chosen, met_into}
use Rattle.avro_file_picked.proofs.Guided.{type_is, id_is, branch_parts, field_parts, no_structure, parts_many}
use Rattle.avro_file_picked.proofs.Guided.{nth_part}
use Rattle.avro_file_picked.proofs.Guided.{kept_read, led_begun, front_led, led_on, led_to, led_nowhere, passed_to}
use Rattle.avro_file_picked.proofs.Guided.{passing_reads}
use Rattle.avro_file_picked.proofs.Guided.{guides_settle, guides_more}
use Rattle.avro_file_picked.proofs.guide.+guided.Goals as goal

pub place_by-returns-in_default : goal.place_by-returns-in_default
place_by-returns-in_default t c = λ field_paths v after is asked e.
    let type = type_is c.args.guide.now in
    rw (
      type,
      pick_itself c.args.field_path.now (tree (out-Guide c.args.guide.now).schema.now) v
          (sym c.in_default.ensures),
    )
    (rw type at (c.place_inside.ensures field_paths v after is asked e))

pub place_by-returns-in_err-position : goal.place_by-returns-in_err-position
place_by-returns-in_err-position t c = λ field_paths v after is asked e.
    absurd (number_fails (tree (out-Guide c.args.guide.now).schema.now) (branch_trees c.in-Some.field-0.now)
    (position_of c.args.place) after v c.in_err-position.field-0.0 (sym c.in-Some.ensures) c.in_err-position.ensures
    (rw (type_is c.args.guide.now) at e))

pub place_by-returns-in_default-natural : goal.place_by-returns-in_default-natural
place_by-returns-in_default-natural t c = λ field_paths v after is asked e.
    negative_fails (branch_at (branch_trees c.in-Some.field-0.now)) c.in_ok-position.position _ after v
    (omega (arith, ints, c.in_default-natural.ensures)) (chosen_read (tree (out-Guide c.args.guide.now).schema.now)
    (branch_trees c.in-Some.field-0.now) (position_of c.args.place) after v c.in_ok-position.position
    c.in_ok-position.rest.now (sym c.in-Some.ensures) c.in_ok-position.ensures (rw (type_is c.args.guide.now) at e))

pub place_by-returns-then-position-len : goal.place_by-returns-then-position-len
place_by-returns-then-position-len t c = λ field_paths v after is asked e.
    let there : c.in_ok-position.position ≡ pos c.in-Some-natural.position =
    omega (arith, ints, c.in-Some-natural.ensures) in
    let read = chosen_read (tree (out-Guide c.args.guide.now).schema.now) (branch_trees c.in-Some.field-0.now)
    (position_of c.args.place) after v c.in_ok-position.position c.in_ok-position.rest.now (sym c.in-Some.ensures)
    c.in_ok-position.ensures (rw (type_is c.args.guide.now) at e) in
    let parts = (out-Guide c.args.guide.now).parts in
    let many = parts_many field_paths parts.items c.in-Some.field-0.now (branch_parts field_paths c.args.guide.now
    c.in-Some.field-0.now is (sym c.in-Some.ensures)) in
    past_fails c.in-Some.field-0.now c.in-Some-natural.position _ after v
    (omega (arith, many, c.if-position-len.true, c.len.ensures, parts.ok)) (rw there at read)

pub place_by-returns : goal.place_by-returns
place_by-returns t c = λ field_paths v after is asked e.
    let there : c.in_ok-position.position ≡ pos c.in-Some-natural.position =
    omega (arith, ints, c.in-Some-natural.ensures) in
    let read = chosen_read (tree (out-Guide c.args.guide.now).schema.now) (branch_trees c.in-Some.field-0.now)
    (position_of c.args.place) after v c.in_ok-position.position c.in_ok-position.rest.now (sym c.in-Some.ensures)
    c.in_ok-position.ensures (rw (type_is c.args.guide.now) at e) in
    let parts = (out-Guide c.args.guide.now).parts in
    let branches = c.in-Some.field-0.now in
    let are = branch_parts field_paths c.args.guide.now branches is (sym c.in-Some.ensures) in
    let inside : c.in-Some-natural.position < length parts.items =
    omega (arith, c.if-position-len.false, c.len.ensures, parts.ok) in
    let part = nth_part field_paths parts.items branches c.in-Some-natural.position c.index.result.now
    (out-Guide c.args.guide.now).schema.now are inside in
    let branch = get_or branches c.in-Some-natural.position (out-Guide c.args.guide.now).schema.now in
    let type : type_guided (seen c.index.result.now) ≡ tree branch =
    subst (λ (g : Guide). type_guided (seen g) ≡ tree branch) (sym c.index.ensures) part.0 in
    let guide_there : IsGuide field_paths (seen c.index.result.now) =
    subst (λ (g : Guide). IsGuide field_paths (seen g)) (sym c.index.ensures) part.1 in
    rw (type_is c.args.guide.now)
    (met_chosen (λ met. GuidesTo field_paths c.args.place.left met c.place_inside-2.result)
    c.args.field_path.now (tree (out-Guide c.args.guide.now).schema.now) branches c.in-Some-natural.position
    (out-Guide c.args.guide.now).schema.now _ after v (sym c.in-Some.ensures)
    (omega (arith, inside, parts_many field_paths parts.items branches are)) (rw there at read) (λ w end f.
    rw (← type) (c.place_inside-2.ensures field_paths w end guide_there asked (rw type f))))

pub place_inside-returns-then-is_record : goal.place_inside-returns-then-is_record
place_inside-returns-then-is_record t c = λ field_paths v after is asked e.
    let field_path : c.args.field_path.now ≡ c.in-Some.id.now ∷ c.in-Some.rest.now = c.in-Some.ensures.cases.0 in
    let same : to_z w32 (of_z w32 c.in-Some.id.now) ≡ c.in-Some.id.now = to_z-of_z w32 c.in-Some.id.now
    (search rules) in
    let schema = tree (out-Guide c.args.guide.now).schema.now in
    let asks = rw field_path at asked in
    let are : AreParts field_paths (all_seen c.deref.result.now)
    (kept field_paths (fields_in schema)) = rw c.deref.ensures.value
    (field_parts field_paths c.args.guide.now is (sym c.if-is_record.ensures)) in
    rw (type_is c.args.guide.now, field_path)
    (met_into (λ met. GuidesTo field_paths c.args.place.left met c.place_past.result)
    (guides_settle field_paths c.args.place.left c.place_past.result) c.in-Some.id.now c.in-Some.rest.now schema
    (fields_in schema) (position_of c.args.place) after v refl (rw (type_is c.args.guide.now) at e)
    (λ vs end f. let k = kept_read field_paths (fields_in schema) (position_of c.args.place) vs end f in
    rw (k.same c.in-Some.id.now asks.0)
    (rw same at (c.place_past.ensures field_paths (kept field_paths (fields_in schema)) k.values end
    are asks.1 k.read))))

pub place_inside-returns-else-is_record : goal.place_inside-returns-else-is_record
place_inside-returns-else-is_record t c = λ field_paths v after is asked e.
    let field_path : c.args.field_path.now ≡ c.in-Some.id.now ∷ c.in-Some.rest.now = c.in-Some.ensures.cases.0 in
    let schema = tree (out-Guide c.args.guide.now).schema.now in
    rw (type_is c.args.guide.now, field_path) (met_into (λ met. GuidesTo field_paths c.args.place.left met (Ok None))
    (guides_settle field_paths c.args.place.left (Ok None)) c.in-Some.id.now c.in-Some.rest.now schema no_fields
    (position_of c.args.place) after v (no_structure schema (sym c.if-is_record.ensures))
    (rw (type_is c.args.guide.now) at e) (λ vs end f. refl))

pub place_inside-returns-in-None : goal.place_inside-returns-in-None
place_inside-returns-in-None t c = λ field_paths v after is asked e.
    let no_way : c.args.field_path.now ≡ [] = nil_from_length _ c.in-None.ensures.cases in
    rw (type_is c.args.guide.now, no_way) (null_at_end (tree (out-Guide c.args.guide.now).schema.now)
    (position_of c.args.place) after v (sym c.if-is_null.ensures) (rw (type_is c.args.guide.now) at e))

pub place_inside-returns-in-None-2 : goal.place_inside-returns-in-None-2
place_inside-returns-in-None-2 t c = λ field_paths v after is asked e.
    let no_way : c.args.field_path.now ≡ [] = nil_from_length _ c.in-None.ensures.cases in
    let read = rw (type_is c.args.guide.now) at e in (
      v,
      (omega arith, after, e),
      rw (type_is c.args.guide.now, no_way) (present_at_end (tree (out-Guide c.args.guide.now).schema.now)
          (position_of c.args.place) after v (sym c.if-is_null.ensures) read),
      is,
    )

pub place_past-guides-init : goal.place_past-guides-init
place_past-guides-init t c = (
  omega arith,
  λ field_paths fs vs after are read. led_begun field_paths (to_z w32 (of_z w32 c.args.id)) fs vs
      (all_seen c.args.guides.now)
      (position_of c.args.place) after are read,
)

pub place_past-returns-then-eq : goal.place_past-returns-then-eq
place_past-returns-then-eq t c = λ field_paths fs vs after are asked e.
    let id = to_z w32 (of_z w32 c.args.id) in
    let same : id ≡ c.args.id = to_z-of_z w32 c.args.id (search rules) in
    let here = c.guide-item.result in
    let f = front_led field_paths id fs vs c.args.guides.now c.guides.guide-index here (position_of c.guides.here) after
    c.guides-test.true c.guide-item.is (c.guides.invariant.1 field_paths fs vs after are e) in
    let own : option_eq int_eq (id_guided (seen here)) (Some id) ≡ true = rw (id_is here) (sym c.if-eq.ensures) in
    let there = led_to field_paths id fs vs (seen here) (all_seen (drop (c.guides.guide-index + 1) c.args.guides.now))
    (position_of c.guides.here) after f own in
    let on = guides_more field_paths c.guides.here.left c.args.place.left (pick c.args.field_path.now (
      type_guided (seen here),
      f.first.first,
    )) c.place_by.result c.guides.invariant.0 (c.place_by.ensures field_paths f.first.first f.first.between f.is asked
    f.first.read) in
    rw (← same) (subst (λ (met : Picked). GuidesTo field_paths c.args.place.left met c.place_by.result)
    (sym (ap (unless_absent (pick c.args.field_path.now)) there)) on)

pub place_past-returns-in_err-here : goal.place_past-returns-in_err-here
place_past-returns-in_err-here t c = λ field_paths fs vs after are asked e.
    let f = front_led field_paths (to_z w32 (of_z w32 c.args.id)) fs vs c.args.guides.now c.guides.guide-index
    c.guide-item.result (position_of c.guides.here) after c.guides-test.true c.guide-item.is
    (c.guides.invariant.1 field_paths fs vs after are e) in
    absurd (passing_reads field_paths c.guide-item.result
    (position_of c.guides.here) f.first.between f.first.first _ f.is
    f.first.read c.in_err-here.ensures)

pub place_past-guides-preserved : goal.place_past-guides-preserved
place_past-guides-preserved t c =
    let here = c.guide-item.result in
    let passed = behind_ok _ _ c.in_ok-here.ensures in
    let fewer : c.in_ok-here.here.left ≤ c.guides.here.left = fewer_left (tree (out-Guide here).passing)
    (position_of c.guides.here) passed.0 (position_of c.in_ok-here.here) passed.1 in (
      omega (arith, c.guides.invariant.0, fewer),
      λ field_paths fs vs after are e.
          let id = to_z w32 (of_z w32 c.args.id) in
          let f = front_led field_paths id fs vs c.args.guides.now c.guides.guide-index here
          (position_of c.guides.here) after
          c.guides-test.true c.guide-item.is (c.guides.invariant.1 field_paths fs vs after are e) in
          let other : option_eq int_eq (id_guided (seen here)) (Some id) ≡ false =
          rw (id_is here) (sym c.if-eq.ensures) in
          led_on field_paths id fs vs (seen here) (all_seen (drop (c.guides.guide-index + 1) c.args.guides.now))
          (position_of c.guides.here) after (position_of c.in_ok-here.here) f (passed_to field_paths here
          (position_of c.guides.here) f.first.between (position_of c.in_ok-here.here) f.first.first f.is f.first.read
          c.in_ok-here.ensures) other,
    )

pub place_past-returns : goal.place_past-returns
place_past-returns t c = λ field_paths fs vs after are asked e.
    let id = to_z w32 (of_z w32 c.args.id) in
    let same : id ≡ c.args.id = to_z-of_z w32 c.args.id (search rules) in
    rw (← same) (ap (λ (o : Option Typed). value_met (unless_absent (pick c.args.field_path.now) o))
    (led_nowhere field_paths id fs vs
    c.args.guides.now c.guides.guide-index (position_of c.guides.here) after c.guides-test.false
    (c.guides.invariant.1 field_paths fs vs after are e)))
