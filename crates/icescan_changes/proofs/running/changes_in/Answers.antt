use Rattle.std.proofs.Common.{◌≡◌, ◌∙◌, subst}
use Rattle.std.proofs.lemmas.Result.{err_from_is_err_and, IfErr-weaker, IfOk-weaker}
use Rattle.icescan_changes.specs.Lineage.{IsOfLineage}
use Rattle.icescan_changes.proofs.Asking.{ends_of_both, no_lineage, no_lists, told_of_both}
use Rattle.icescan_changes.proofs.running.changes_in.Goals as goal
use Rattle.icescan_text.specs.declared.fault.RunFault.TheVariants as run

pub returns-in_err-check_lineage-clause-refused : goal.returns-in_err-check_lineage-clause-refused
returns-in_err-check_lineage-clause-refused g c =
    let p = err_from_is_err_and c.from_residual.result c.from_residual.ensures.1 in
    λ world told. rw (p.1, p.2)
    (no_lineage (g.F.Files.may_fail c.args.files.now) c.args.format world c.args.metadata.now c.args.request.now
    c.in_err-check_lineage.field-0.0 c.in_err-check_lineage.ensures.causes c.in_err-check_lineage.ensures.gives)

pub returns-in_err-check_lineage-clause-absent : goal.returns-in_err-check_lineage-clause-absent
returns-in_err-check_lineage-clause-absent g c =
    let p = err_from_is_err_and c.from_residual.result c.from_residual.ensures.1 in
    rw (p.1, p.2) (λ path is.
    let failed : c.in_err-check_lineage.field-0.0 ≡ run.Absent path = cc in
    absurd (subst IsOfLineage failed c.in_err-check_lineage.ensures.causes))

pub returns-in_err-check_lineage-clause-device : goal.returns-in_err-check_lineage-clause-device
returns-in_err-check_lineage-clause-device g c =
    let p = err_from_is_err_and c.from_residual.result c.from_residual.ensures.1 in
    rw (p.1, p.2) (λ path is.
    let failed : c.in_err-check_lineage.field-0.0 ≡ run.Device path = cc in
    absurd (subst IsOfLineage failed c.in_err-check_lineage.ensures.causes))

pub returns-in_err-check_lineage-clause-write : goal.returns-in_err-check_lineage-clause-write
returns-in_err-check_lineage-clause-write g c =
    let p = err_from_is_err_and c.from_residual.result c.from_residual.ensures.1 in
    rw (p.1, p.2) (λ is.
    let failed : c.in_err-check_lineage.field-0.0 ≡ run.Write = cc in
    absurd (subst IsOfLineage failed c.in_err-check_lineage.ensures.causes))

pub returns-in_err-both-clause-refused : goal.returns-in_err-both-clause-refused
returns-in_err-both-clause-refused g c =
    let p = err_from_is_err_and c.from_residual-in_err-both.result c.from_residual-in_err-both.ensures.1 in
    λ world told. rw (p.1, p.2)
    (no_lists (g.F.Files.may_fail c.args.files.now) c.args.format world c.args.metadata.now c.args.request.now
    c.in_ok-check_lineage.ensures.gives c.in_err-both.field-0.0 (c.in_err-both.ensures.refused world told))

pub returns-clause-found : goal.returns-clause-found
returns-clause-found g c =
    λ world told.
    let same = told_of_both (g.F.Files.may_fail c.args.files.now) c.args.format world c.args.metadata.now
    c.args.request.now c.in_ok-check_lineage.ensures.gives c.in_ok-both.both (c.in_ok-both.ensures.found world told) in
    IfOk-weaker c.changes_between.result _ _ (λ _ is. same ∙ is) (c.changes_between.ensures.found world told)

pub returns-clause-refused : goal.returns-clause-refused
returns-clause-refused g c =
    λ world told.
    IfErr-weaker c.changes_between.result _ _
    (λ e h. ends_of_both (g.F.Files.may_fail c.args.files.now) c.args.format world c.args.metadata.now
    c.args.request.now c.in_ok-check_lineage.ensures.gives c.in_ok-both.both (c.in_ok-both.ensures.found world told)
    e h) (c.changes_between.ensures.refused world told)

pub returns-clause-given : goal.returns-clause-given
returns-clause-given g c =
    IfOk-weaker c.changes_between.result _ _
    (λ _ is. record {
      follows = c.in_ok-check_lineage.ensures.gives;
      both = c.in_ok-both.both;
      both_is = c.in_ok-both.ensures.given;
      told = is;
    }) c.changes_between.ensures.given
