use Rattle.std.proofs.Common.{◌≡◌, List, [], sym, refl, ap, subst, ◌∙◌}
use Rattle.std.proofs.lemmas.Result.{err_from_is_err_and}
use Rattle.avro_schema.specs.declared.schema.Schema.{Schema}
use Rattle.avro_schema.specs.View.{tree}
use Rattle.avro_file_picked.specs.Guides.{IsGuideFor}
use Rattle.ice_value.specs.Columns.{ColumnCount}
use Rattle.ice_value.specs.Pairs.{count_said, counts_said}
use Rattle.ice_manifest_fields.specs.Maps.{count_of}
use Rattle.ice_manifest_fields.specs.Naming.{in_manifest, told}
use Rattle.ice_manifest_fields.proofs.Lent.{counts_pushed}
use Rattle.ice_manifest_values.specs.Met.{pair_ids}
use Rattle.ice_manifest_values.proofs.Coming.{SoFar, none_so_far, more_so_far, stops_so_far, all_so_far}
use Rattle.ice_manifest_values.proofs.pairs.each_count.Goals as goal

pub items-init : goal.items-init
items-init c =
    let says = count_of c.args.map in
    let none : counts_said c.new-counts.result.items ≡ [] = ap counts_said c.new-counts.ensures.items in (
      λ fits. subst (λ (front : List ColumnCount). SoFar says c.args.items c.args.items front) (sym none)
          (none_so_far says c.args.items),
      refl,
    )

pub returns-in_err-count_of : goal.returns-in_err-count_of
returns-in_err-count_of c =
    let p = err_from_is_err_and c.from_residual.result
    c.from_residual.ensures.1 in
    rw (p.1, p.2) (λ vs fits ahead _.
    let here = subst (λ (s : Schema). IsGuideFor (pair_ids c.args.map) (tree s) c.args.guide.now)
    (sym c.items.invariant.1) fits in
    let there = subst (λ (s : Schema). IsGuideFor (pair_ids c.args.map) (tree s) c.args.guide.now)
    (sym c.in-Some.ensures.item) here in
    ap (told in_manifest) (stops_so_far (count_of c.args.map) c.args.items c.items.items
    c.next_passed.new.self c.in-Some.item (counts_said c.items.counts.items) c.in_err-count_of.field-0.0
    (c.in-Some.ensures.items (c.passing.ensures here.0 (tree c.items.items.schema.now) here.1))
    (λ v at. c.in_err-count_of.ensures v there at) (c.items.invariant.0 fits) vs ahead))

pub items-preserved : goal.items-preserved
items-preserved c =
    let says = count_of c.args.map in (
      λ fits.
          let here = subst (λ (s : Schema). IsGuideFor (pair_ids c.args.map) (tree s) c.args.guide.now)
          (sym c.items.invariant.1) fits in
          let there = subst (λ (s : Schema). IsGuideFor (pair_ids c.args.map) (tree s) c.args.guide.now)
          (sym c.in-Some.ensures.item) here in
          subst (λ (front : List ColumnCount). SoFar says c.args.items c.next_passed.new.self front)
          (sym (counts_pushed _ _ _ c.in_ok-push.ensures.items))
          (more_so_far says c.args.items c.items.items c.next_passed.new.self c.in-Some.item
          (counts_said c.items.counts.items) (count_said c.in_ok-count_of.field-0)
          (c.in-Some.ensures.items (c.passing.ensures here.0 (tree c.items.items.schema.now) here.1))
          (λ v at. c.in_ok-count_of.ensures v there at) (c.items.invariant.0 fits)),
      c.in-Some.ensures.schema ∙ c.items.invariant.1,
    )

pub returns : goal.returns
returns c = λ vs fits ahead.
    let here = subst (λ (s : Schema). IsGuideFor (pair_ids c.args.map) (tree s) c.args.guide.now)
    (sym c.items.invariant.1) fits in
    ap (told in_manifest)
    (all_so_far (count_of c.args.map) c.args.items c.items.items (counts_said c.items.counts.items)
    (c.in_default.ensures.items (c.passing.ensures here.0 (tree c.items.items.schema.now) here.1))
    (c.items.invariant.0 fits) vs ahead)
