use Rattle.std.proofs.Common.{◌≡◌, ℤ, get_or, pos, None, to_z, of_z, w32, rules, subst}
use Rattle.std.proofs.lemmas.Int.{to_z-of_z}
use Rattle.icescan_audit_findings.specs.ColumnsSaid.{IsSaidOf}
use Rattle.icescan_audit_findings.specs.declared.basis.TypedColumn.{TypedColumn}
use Rattle.icescan_audit_findings.proofs.ColumnsTold.{flaws_more}
use Rattle.icescan_audit_findings.proofs.columns.push_flaws_listed.Goals as goal

pub columns-preserved : goal.columns-preserved
columns-preserved c =
    let d : TypedColumn = record { id = pos 0; column_type = None } in
    let id = (get_or c.args.columns.now c.columns.i d).id in
    let same : to_z w32 (of_z w32 id) ≡ id = to_z-of_z w32 id (search rules) in
    let said = subst (λ (z : ℤ). IsSaidOf c.args.bounds.now z c.column_said-of_column.result) same
    c.column_said-of_column.ensures in
    flaws_more c.args.bounds.now c.args.columns.now c.columns.i d c.args.flaws.now.items c.columns.flaws.items
    c.push_column_flaws.new.flaws.items c.columns-test.true c.columns.invariant
    (c.in_ok-push_column_flaws.ensures c.args.bounds.now said)
