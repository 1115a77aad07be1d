use Rattle.std.proofs.Common.{◌≡◌, ◌++◌, ◌∙◌, ℤ, ap, get_or, pos, None, to_z, of_z, w32, rules, subst}
use Rattle.std.proofs.lemmas.Int.{to_z-of_z}
use Rattle.std.proofs.lemmas.List.{take_all}
use Rattle.icescan_audit_findings.specs.ColumnFlaws.{columns_flaws}
use Rattle.icescan_audit_findings.specs.ColumnsSaid.{IsSaidOf}
use Rattle.icescan_audit_findings.specs.declared.basis.TypedColumn.{TypedColumn}
use Rattle.icescan_audit_findings.proofs.ColumnsTold.{flaws_more}
use Rattle.icescan_audit_findings.proofs.columns.push_flaws_found.Goals as goal

pub columns-preserved : goal.columns-preserved
columns-preserved c = λ file are.
    let kept = c.columns.invariant file are in
    let d : TypedColumn = record { id = pos 0; column_type = None } in
    let id = (get_or c.args.columns.now c.columns.column-index d).id in
    let same : to_z w32 (of_z w32 id) ≡ id = to_z-of_z w32 id (search rules) in
    let said = subst (λ (z : ℤ). IsSaidOf file z c.column_found-of_column.result) same
    (c.column_found-of_column.ensures.said file kept.maps) in
    record {
      maps = c.column_found-of_column.ensures.same file kept.maps;
      flaws = flaws_more file c.args.columns.now c.columns.column-index d c.args.flaws.now.items c.columns.flaws.items
          c.push_column_flaws.new.flaws.items c.columns-test.true kept.flaws
          (c.in_ok-push_column_flaws.ensures file said);
    }

pub returns : goal.returns
returns c = λ file are. (c.columns.invariant file are).flaws
    ∙ ap (λ cs. c.args.flaws.now.items ++ columns_flaws file cs)
    (take_all c.columns.column-index c.args.columns.now c.columns-test.false)
