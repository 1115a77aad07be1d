use Rattle.std.proofs.Common.{◌≡◌, ◌∙◌, sym, ap, subst, IfSome, List, ℤ, length, ◌≤◌}
use Rattle.std.proofs.Math.Seq.{take_all}
use Rattle.avro_schema.specs.View.{tree}
use Rattle.avro_file_picked.specs.Guides.{ids_in, IsGuideOf}
use Rattle.avro_file_picked.specs.Rows.{IsLead}
use Rattle.avro_file_picked.proofs.Picks.{one_more}
use Rattle.avro_file_picked.proofs.Placed.{leads_on, some_fits}
use Rattle.avro_file_picked.proofs.layout.Layout.new.Goals as goal

pub field_paths-preserved : goal.field_paths-preserved
field_paths-preserved c =
    let i = c.field_paths.invariant in
    let same : c.in_ok-from_slice.field-0.items ≡ c.field_path-item.result.items = c.in_ok-from_slice.ensures.items
    ∙ c.deref-in-field_paths.ensures.value in
    let field_path : c.deref.result.now ≡ c.in_ok-from_slice.field-0.items = c.deref.ensures.value ∙ sym same in
    let lead : IsLead (tree c.args.schema.now) c.in_ok-from_slice.field-0.items c.lead_of.result =
    subst (λ (w : List ℤ). IsLead (tree c.args.schema.now) w c.lead_of.result) field_path c.lead_of.ensures.lead in
    let fits : IfSome c.lead_of.result (λ l. l.passed ≤ length c.in_ok-from_slice.field-0.items) =
    some_fits c.lead_of.result c.deref.result.now c.in_ok-from_slice.field-0.items _ field_path
    c.lead_of.ensures.within in (
      rw c.in_ok-push-2.ensures.items
          (one_more (λ field_path. field_path.items)
          (λ field_path. field_path.items) c.field_paths.kept.items c.args.field_paths.now
          c.field_paths.field_path-index c.field_path-item.result c.in_ok-from_slice.field-0 c.field_paths-test.true
          c.field_path-item.is i.0 same),
      rw (c.in_ok-push-2.ensures.items, c.in_ok-push.ensures.items)
          (leads_on (tree c.args.schema.now) c.field_paths.kept.items
          c.field_paths.leads.items c.in_ok-from_slice.field-0 c.lead_of.result i.1 lead fits),
    )

pub returns-clause-leads : goal.returns-clause-leads
returns-clause-leads c =
    let all = c.field_paths.invariant.0
    ∙ ap ids_in (take_all c.field_paths.field_path-index c.args.field_paths.now c.field_paths-test.false) in (
      c.in_ok-steps.ensures.alike,
      c.field_paths.invariant.1,
      c.in_ok-passing.ensures,
      subst (λ (ws : List (List ℤ)). IfSome c.in_ok-guide.guide (IsGuideOf ws (tree c.args.schema.now))) (sym all)
          c.in_ok-guide.ensures,
    )
