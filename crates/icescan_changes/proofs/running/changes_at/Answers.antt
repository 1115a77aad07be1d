use Rattle.std.proofs.Common.{◌≡◌, ◌∙◌, ap, sym, List, ℕ, Some, subst}
use Rattle.std.specs.Prelude.{Err, Ok}
use Rattle.icescan_text.specs.declared.fault.RunFault.TheVariants as run
use Rattle.std.proofs.lemmas.Result.{err_from_is_err_and, IfErr-weaker, IfOk-weaker}
use Rattle.icescan_text.proofs.Enough.{in_range}
use Rattle.icescan_changes.proofs.Asking.{ends_behind, no_metadata, no_workers, told_behind}
use Rattle.icescan_changes.proofs.running.changes_at.Goals as goal

pub returns-in_err-workers-clause-workers : goal.returns-in_err-workers-clause-workers
returns-in_err-workers-clause-workers g c =
    let p = err_from_is_err_and c.from_residual.result c.from_residual.ensures.1 in
    let refused = c.in_err-workers.ensures.refused in
    rw (p.1, p.2) (λ out. ap Err refused.0)

pub returns-in_err-workers-clause-refused : goal.returns-in_err-workers-clause-refused
returns-in_err-workers-clause-refused g c =
    let p = err_from_is_err_and c.from_residual.result c.from_residual.ensures.1 in
    λ world told. rw (p.1, p.2)
    (no_workers (g.F.Files.may_fail c.args.files.now) c.args.format world c.args.path.now c.args.request.now
    c.args.workers ⊥ c.in_err-workers.field-0.0 c.in_err-workers.ensures.refused)

pub returns-in_err-workers-clause-absent : goal.returns-in_err-workers-clause-absent
returns-in_err-workers-clause-absent g c =
    let p = err_from_is_err_and c.from_residual.result c.from_residual.ensures.1 in
    let refused = c.in_err-workers.ensures.refused in
    rw (p.1, p.2) (λ path is. let no : run.Workers ≡ run.Absent path = sym refused.0 ∙ cc in absurd cc)

pub returns-in_err-workers-clause-device : goal.returns-in_err-workers-clause-device
returns-in_err-workers-clause-device g c =
    let p = err_from_is_err_and c.from_residual.result c.from_residual.ensures.1 in
    let refused = c.in_err-workers.ensures.refused in
    rw (p.1, p.2) (λ path is. let no : run.Workers ≡ run.Device path = sym refused.0 ∙ cc in absurd cc)

pub returns-in_err-workers-clause-write : goal.returns-in_err-workers-clause-write
returns-in_err-workers-clause-write g c =
    let p = err_from_is_err_and c.from_residual.result c.from_residual.ensures.1 in
    let refused = c.in_err-workers.ensures.refused in
    rw (p.1, p.2) (λ is. let no : run.Workers ≡ run.Write = sym refused.0 ∙ cc in absurd cc)

pub returns-in_err-metadata-clause-workers : goal.returns-in_err-metadata-clause-workers
returns-in_err-metadata-clause-workers g c =
    let p = err_from_is_err_and c.from_residual-in_err-metadata.result c.from_residual-in_err-metadata.ensures.1 in
    let given = c.in_ok-workers.ensures.given in
    rw (p.1, p.2) (λ out. absurd (in_range c.args.workers given.1 given.2 out))

pub returns-in_err-metadata-clause-refused : goal.returns-in_err-metadata-clause-refused
returns-in_err-metadata-clause-refused g c =
    let p = err_from_is_err_and c.from_residual-in_err-metadata.result c.from_residual-in_err-metadata.ensures.1 in
    let given = c.in_ok-workers.ensures.given in
    λ world told. rw (p.1, p.2)
    (no_metadata (g.F.Files.may_fail c.args.files.now) c.args.format world c.args.path.now c.args.request.now
    c.args.workers given.1 given.2 ⊥ c.in_err-metadata.field-0.0 (c.in_err-metadata.ensures.refused world told))

pub returns-in_err-metadata-clause-write : goal.returns-in_err-metadata-clause-write
returns-in_err-metadata-clause-write g c =
    let p = err_from_is_err_and c.from_residual-in_err-metadata.result c.from_residual-in_err-metadata.ensures.1 in
    rw (p.1, p.2) (λ is.
    let failed : c.in_err-metadata.field-0.0 ≡ run.Write = cc in
    absurd (c.in_err-metadata.ensures.write (ap Err failed)))

pub returns-clause-workers : goal.returns-clause-workers
returns-clause-workers g c =
    let given = c.in_ok-workers.ensures.given in
    λ out. absurd (in_range c.args.workers given.1 given.2 out)

pub returns-clause-found : goal.returns-clause-found
returns-clause-found g c =
    let f = g.F.Files.may_fail c.args.files.now in
    let given = c.in_ok-workers.ensures.given in
    λ world told.
    let has = c.in_ok-metadata.ensures.found world told ∙ ap Ok (sym c.deref.ensures.value) in
    let same = told_behind f c.args.format world c.args.path.now c.args.request.now c.args.workers given.1 given.2
    c.deref.result.now has in
    IfOk-weaker c.changes_in.result _ _ (λ _ is. same ∙ is) (c.changes_in.ensures.found world told)

pub returns-clause-refused : goal.returns-clause-refused
returns-clause-refused g c =
    let f = g.F.Files.may_fail c.args.files.now in
    let given = c.in_ok-workers.ensures.given in
    λ world told.
    let has = c.in_ok-metadata.ensures.found world told ∙ ap Ok (sym c.deref.ensures.value) in
    IfErr-weaker c.changes_in.result _ _
    (λ e h. ends_behind f c.args.format world c.args.path.now c.args.request.now c.args.workers given.1 given.2
    c.deref.result.now has ⊥ e h) (c.changes_in.ensures.refused world told)

pub returns-clause-given : goal.returns-clause-given
returns-clause-given g c =
    let read = subst (λ (bytes : List ℕ). g.F.Files.gives c.args.files.now c.args.path.now (Some bytes))
    (sym c.deref.ensures.value) c.in_ok-metadata.ensures.given in
    IfOk-weaker c.changes_in.result _ _ (λ _ is. (c.deref.result.now, read, is)) c.changes_in.ensures.given
