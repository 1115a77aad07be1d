use Rattle.std.proofs.Common.{List, sym, refl, ap, subst, ◌∙◌}
use Rattle.std.proofs.lemmas.Result.{err_from_is_err_and}
use Rattle.avro_schema.specs.declared.schema.Schema.{Schema}
use Rattle.avro_schema.specs.View.{tree}
use Rattle.avro_file.specs.Alike.{EndAlike}
use Rattle.avro_file_picked.specs.Guides.{IsGuideFor}
use Rattle.ice_value.specs.declared.file_bounds.Summary.{Summary}
use Rattle.ice_manifest_fields.specs.Naming.{in_list, told}
use Rattle.ice_manifest_fields.proofs.Joining.{told_ok}
use Rattle.ice_manifest_values.proofs.Coming.{SoFar, none_so_far, more_so_far, fails_so_far, all_so_far}
use Rattle.ice_manifest_reading.specs.Lists.{summary_of}
use Rattle.ice_manifest_layouts.specs.RowsFound.{summary_ids}
use Rattle.ice_manifest_reading.proofs.summaries.each_summary.Goals as goal

pub items-init : goal.items-init
items-init c = (
  subst (λ (front : List Summary). SoFar summary_of c.args.items c.args.items front) (sym c.in_ok-summaries.ensures)
      (none_so_far summary_of c.args.items),
  refl,
)

pub next_by-requires : goal.next_by-requires
next_by-requires c =
    subst (λ (s : Schema). EndAlike (tree c.passing.result.now) (tree s)) (sym c.items.invariant.1)
    (c.passing.ensures c.requires.0 (tree c.args.items.schema.now) c.requires.1)

pub summary_of-requires : goal.summary_of-requires
summary_of-requires c =
    subst (λ (s : Schema). IsGuideFor summary_ids (tree s) c.args.guide.now)
    (sym (c.in-Some.ensures.item ∙ c.items.invariant.1)) c.requires

pub returns-in_err-summary_of : goal.returns-in_err-summary_of
returns-in_err-summary_of c =
    let p = err_from_is_err_and c.from_residual-in_err-summary_of.result
    c.from_residual-in_err-summary_of.ensures.1 in
    rw (p.1, p.2) (λ vs ahead other. fails_so_far in_list summary_of c.args.items c.items.items c.next_by.new.self
    c.in-Some.item c.items.summaries _ c.in-Some.ensures.items (λ v at. c.in_err-summary_of.ensures v at other)
    c.items.invariant.0 vs ahead)

pub items-preserved : goal.items-preserved
items-preserved c = (
  subst (λ (front : List Summary). SoFar summary_of c.args.items c.next_by.new.self front)
      (sym c.in_ok-push.ensures.ok)
      (more_so_far summary_of c.args.items c.items.items c.next_by.new.self c.in-Some.item c.items.summaries
      c.in_ok-summary_of.field-0 c.in-Some.ensures.items
      (λ v at. sym (told_ok in_list (summary_of (tree c.in-Some.item.schema.now, v)) _
      (c.in_ok-summary_of.ensures v at))) c.items.invariant.0),
  c.in-Some.ensures.schema ∙ c.items.invariant.1,
)

pub returns : goal.returns
returns c = λ vs ahead. ap (told in_list) (all_so_far summary_of c.args.items c.items.items c.items.summaries
    c.in_default.ensures.items c.items.invariant.0 vs ahead)
