use Rattle.std.proofs.Common.{◌≡◌, ◌++◌, arith, sym, subst}
use Rattle.std.proofs.lemmas.Grind.{common_steps}
use Rattle.std.specs.Prelude.{Option, OnOk}
use Rattle.ice_value.specs.declared.column_type.ColumnType.{ColumnType}
use Rattle.icescan_audit_findings.specs.FieldFlaws.{flaws_as, has_other_nulls, is_outside_bounds}
use Rattle.icescan_audit_findings.specs.Flaws.{flaw_where}
use Rattle.icescan_audit_findings.specs.declared.finding.FieldFlaw.TheVariants.{OtherNulls, OutsideBounds}
use Rattle.icescan_audit_findings.specs.declared.finding.Flaw.TheVariants.{OfField}
use Rattle.icescan_audit_findings.proofs.fields.push_field_flaws.Goals as goal

pub returns : goal.returns
returns c =
    let file = c.args.bounds.now in
    let f = c.args.field.now in
    let p = c.args.value.now in
    let typed : OnOk c.push_of_field-2.result (c.push_of_field-2.new.flaws.items ≡ c.args.flaws.now.items
    ++ (flaw_where (has_other_nulls file f.column p) (OfField OtherNulls f.name)
    ++ flaw_where (is_outside_bounds file f.transform c.in-Some.column_type f.column p) (OfField OutsideBounds f.name)))
    = grind (arith, common_steps) in
    subst (λ (t : Option ColumnType). OnOk c.push_of_field-2.result (c.push_of_field-2.new.flaws.items
    ≡ c.args.flaws.now.items ++ flaws_as file f t p)) (sym c.in-Some.is) typed
