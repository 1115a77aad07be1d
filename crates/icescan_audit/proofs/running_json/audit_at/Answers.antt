use Rattle.std.proofs.Common.{◌≡◌, ◌∙◌, ap, sym, List, ℕ, Some, subst}
use Rattle.std.specs.Prelude.{Err, Ok}
use Rattle.std.proofs.lemmas.Result.{err_from_is_err_and, IfErr-weaker, IfOk-weaker}
use Rattle.icescan_text.specs.declared.fault.RunFault.TheVariants as run
use Rattle.icescan_text.proofs.Enough.{in_range}
use Rattle.icescan_audit.proofs.AnyFiles.{read_stops}
use Rattle.icescan_audit.proofs.Steps.{audit_behind, ends_behind, no_metadata, no_workers}
use Rattle.icescan_audit.proofs.running_json.audit_at.Goals as goal

pub returns-in_err-workers-clause-workers : goal.returns-in_err-workers-clause-workers
returns-in_err-workers-clause-workers g c =
    let p = err_from_is_err_and c.from_residual.result c.from_residual.ensures.1 in
    rw (p.1, p.2) (λ out. ap Err c.in_err-workers.ensures.refused.0)

pub returns-in_err-workers-clause-refused : goal.returns-in_err-workers-clause-refused
returns-in_err-workers-clause-refused g c =
    let p = err_from_is_err_and c.from_residual.result c.from_residual.ensures.1 in
    λ world told. rw (p.1, p.2)
    (no_workers (g.F.Files.may_fail c.args.files.now) world c.args.path.now c.args.target.now c.args.workers
    ⊥ c.in_err-workers.field-0.0 c.in_err-workers.ensures.refused)

pub returns-in_err-workers-clause-write : goal.returns-in_err-workers-clause-write
returns-in_err-workers-clause-write g c =
    let p = err_from_is_err_and c.from_residual.result c.from_residual.ensures.1 in
    let refused = c.in_err-workers.ensures.refused in
    rw (p.1, p.2) (λ is. let no : run.Workers ≡ run.Write = sym refused.0 ∙ cc in absurd cc)

pub returns-in_err-workers-clause-stops : goal.returns-in_err-workers-clause-stops
returns-in_err-workers-clause-stops g c =
    let p = err_from_is_err_and c.from_residual.result c.from_residual.ensures.1 in
    rw (p.1, p.2, c.in_err-workers.ensures.refused.0) tt

pub returns-in_err-metadata-clause-workers : goal.returns-in_err-metadata-clause-workers
returns-in_err-metadata-clause-workers g c =
    let p = err_from_is_err_and c.from_residual-in_err-metadata.result c.from_residual-in_err-metadata.ensures.1 in
    let given = c.in_ok-workers.ensures.given in
    rw (p.1, p.2) (λ out. absurd (in_range c.args.workers given.1 given.2 out))

pub returns-clause-workers : goal.returns-clause-workers
returns-clause-workers g c =
    let given = c.in_ok-workers.ensures.given in
    λ out. absurd (in_range c.args.workers given.1 given.2 out)

pub returns-in_err-metadata-clause-refused : goal.returns-in_err-metadata-clause-refused
returns-in_err-metadata-clause-refused g c =
    let p = err_from_is_err_and c.from_residual-in_err-metadata.result c.from_residual-in_err-metadata.ensures.1 in
    let given = c.in_ok-workers.ensures.given in
    λ world told. rw (p.1, p.2)
    (no_metadata (g.F.Files.may_fail c.args.files.now) world c.args.path.now c.args.target.now c.args.workers given.1
    given.2 ⊥ c.in_err-metadata.field-0.0 (c.in_err-metadata.ensures.refused world told))

pub returns-in_err-metadata-clause-write : goal.returns-in_err-metadata-clause-write
returns-in_err-metadata-clause-write g c =
    let p = err_from_is_err_and c.from_residual-in_err-metadata.result c.from_residual-in_err-metadata.ensures.1 in
    rw (p.1, p.2) (λ is.
    let failed : c.in_err-metadata.field-0.0 ≡ run.Write = cc in
    absurd (c.in_err-metadata.ensures.write (ap Err failed)))

pub returns-in_err-metadata-clause-stops : goal.returns-in_err-metadata-clause-stops
returns-in_err-metadata-clause-stops g c =
    let p = err_from_is_err_and c.from_residual-in_err-metadata.result c.from_residual-in_err-metadata.ensures.1 in
    let no = c.in_err-metadata.ensures in
    rw (p.1, p.2)
    (read_stops (g.F.Files.world c.args.files.now) (g.F.Files.may_fail c.args.files.now) c.in_err-metadata.field-0.0
    no.absent no.device no.write)

pub returns-clause-found : goal.returns-clause-found
returns-clause-found g c =
    let f = g.F.Files.may_fail c.args.files.now in
    let given = c.in_ok-workers.ensures.given in
    λ world told.
    let has = c.in_ok-metadata.ensures.found world told ∙ ap Ok (sym c.deref.ensures.value) in
    let same = audit_behind f world c.args.path.now c.args.target.now c.args.workers given.1 given.2
    c.deref.result.now has in
    IfOk-weaker c.audit_table.result _ _ (λ _ is. same ∙ is) (c.audit_table.ensures.answer world told).0

pub returns-clause-refused : goal.returns-clause-refused
returns-clause-refused g c =
    let f = g.F.Files.may_fail c.args.files.now in
    let given = c.in_ok-workers.ensures.given in
    λ world told.
    let has = c.in_ok-metadata.ensures.found world told ∙ ap Ok (sym c.deref.ensures.value) in
    IfErr-weaker c.audit_table.result _ _
    (λ e h. ends_behind f world c.args.path.now c.args.target.now c.args.workers given.1 given.2 c.deref.result.now has
    ⊥ e h) (c.audit_table.ensures.answer world told).1

pub returns-clause-given : goal.returns-clause-given
returns-clause-given g c =
    let read = subst (λ (bytes : List ℕ). g.F.Files.gives c.args.files.now c.args.path.now (Some bytes))
    (sym c.deref.ensures.value) c.in_ok-metadata.ensures.given in
    IfOk-weaker c.audit_table.result _ _ (λ audit is. (c.deref.result.now, read, is)) c.audit_table.ensures.read
