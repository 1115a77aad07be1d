use Rattle.std.proofs.Common.{◌≡◌, ◌∙◌, ap, length}
use Rattle.std.specs.Prelude.{Err}
use Rattle.std.proofs.lemmas.Result.{err_from_is_err_and}
use Rattle.ice_desk.specs.Worlds.{EndsAt}
use Rattle.icescan_audit_findings.specs.Telling.{faults}
use Rattle.icescan_audit.specs.Audits.{audit_at, audit_reads_at}
use Rattle.icescan_audit.proofs.AnyFiles.{writes_stop}
use Rattle.icescan_audit.proofs.JsonWritten.{no_text, not_written, writing_stops}
use Rattle.icescan_text.proofs.Steps.{may_write}
use Rattle.icescan_text.specs.declared.fault.RunFault.TheVariants as run
use Rattle.icescan_audit.proofs.running_json.audit_file_json.Goals as goal

pub returns-in_err-audit-clause-workers : goal.returns-in_err-audit-clause-workers
returns-in_err-audit-clause-workers g c =
    let p = err_from_is_err_and c.from_residual.result c.from_residual.ensures.1 in
    rw (p.1, p.2) (λ out. let is = c.in_err-audit.ensures.workers out in cc)

pub returns-in_err-audit-clause-refused : goal.returns-in_err-audit-clause-refused
returns-in_err-audit-clause-refused g c =
    let p = err_from_is_err_and c.from_residual.result c.from_residual.ensures.1 in
    λ world told. rw (p.1, p.2)
    (may_write (EndsAt world (g.F.Files.may_fail c.args.files.now)
    (audit_reads_at world c.args.path.now c.args.target.now)) (g.W.Sink.may_fail c.args.output.now)
    (audit_at world c.args.path.now c.args.target.now c.args.workers) c.in_err-audit.field-0.0
    (c.in_err-audit.ensures.refused world told))

pub returns-in_err-audit-clause-front : goal.returns-in_err-audit-clause-front
returns-in_err-audit-clause-front g c =
    let p = err_from_is_err_and c.from_residual.result c.from_residual.ensures.1 in
    λ world told. rw (p.1, p.2) (λ is.
    let failed : c.in_err-audit.field-0.0 ≡ run.Write = cc in
    absurd (c.in_err-audit.ensures.write (ap Err failed)))

pub returns-in_err-audit-clause-refusal : goal.returns-in_err-audit-clause-refusal
returns-in_err-audit-clause-refusal g c =
    let p = err_from_is_err_and c.from_residual.result c.from_residual.ensures.1 in
    rw (p.1, p.2)
    (writes_stop (g.F.Files.world c.args.files.now) (g.F.Files.may_fail c.args.files.now)
    (g.W.Sink.may_fail c.args.output.now) c.in_err-audit.field-0.0 c.in_err-audit.ensures.stops)

pub returns-in_err-write_audit_objects-clause-workers : goal.returns-in_err-write_audit_objects-clause-workers
returns-in_err-write_audit_objects-clause-workers g c =
    λ out. let is = c.in_ok-audit.ensures.workers out in absurd cc

pub returns-clause-workers : goal.returns-clause-workers
returns-clause-workers g c = λ out. let is = c.in_ok-audit.ensures.workers out in absurd cc

pub returns-in_err-write_audit_objects-clause-refused : goal.returns-in_err-write_audit_objects-clause-refused
returns-in_err-write_audit_objects-clause-refused g c =
    let p = err_from_is_err_and c.from_residual-in_err-write_audit_objects.result
    c.from_residual-in_err-write_audit_objects.ensures.1 in
    let wrote = c.in_err-write_audit_objects.ensures in
    λ world told. rw (p.1, p.2)
    (no_text (EndsAt world (g.F.Files.may_fail c.args.files.now)
    (audit_reads_at world c.args.path.now c.args.target.now)) (g.W.Sink.may_fail c.args.output.now)
    (audit_at world c.args.path.now c.args.target.now c.args.workers) c.in_err-write_audit_objects.field-0.0
    wrote.causes (λ is. wrote.cause (ap Err is)))

pub returns-in_err-write_audit_objects-clause-front : goal.returns-in_err-write_audit_objects-clause-front
returns-in_err-write_audit_objects-clause-front g c =
    let p = err_from_is_err_and c.from_residual-in_err-write_audit_objects.result
    c.from_residual-in_err-write_audit_objects.ensures.1 in
    λ world told. rw (p.1, p.2) (λ is.
    let same : c.in_err-write_audit_objects.field-0.0 ≡ run.Write = cc in
    let front = c.in_err-write_audit_objects.ensures.front (ap Err same) in
    (c.in_ok-audit.audit, c.in_ok-audit.ensures.found world told, front))

pub returns-in_err-write_audit_objects-clause-nothing : goal.returns-in_err-write_audit_objects-clause-nothing
returns-in_err-write_audit_objects-clause-nothing g c =
    let p = err_from_is_err_and c.from_residual-in_err-write_audit_objects.result
    c.from_residual-in_err-write_audit_objects.ensures.1 in
    let wrote = c.in_err-write_audit_objects.ensures in
    rw (p.1, p.2) (not_written c.in_err-write_audit_objects.field-0.0 wrote.causes _ (λ is. wrote.nothing (ap Err is)))

pub returns-in_err-write_audit_objects-clause-refusal : goal.returns-in_err-write_audit_objects-clause-refusal
returns-in_err-write_audit_objects-clause-refusal g c =
    let p = err_from_is_err_and c.from_residual-in_err-write_audit_objects.result
    c.from_residual-in_err-write_audit_objects.ensures.1 in
    let wrote = c.in_err-write_audit_objects.ensures in
    rw (p.1, p.2) (writing_stops (g.F.Files.world c.args.files.now) (g.F.Files.may_fail c.args.files.now)
    (g.W.Sink.may_fail c.args.output.now) c.in_err-write_audit_objects.field-0.0 wrote.causes
    (λ is. wrote.cause (ap Err is)))

pub returns-clause-written : goal.returns-clause-written
returns-clause-written g c =
    let audit = c.in_ok-audit.audit in
    let count : c.count_faults.result ≡ length (faults audit.findings) = c.count_faults.ensures
    ∙ ap (λ found. length (faults found)) c.as_slice.ensures in
    λ world told. (audit, c.in_ok-audit.ensures.found world told, count, c.in_ok-write_audit_objects.ensures.all)

pub returns-clause-given : goal.returns-clause-given
returns-clause-given g c =
    let audit = c.in_ok-audit.audit in
    let count : c.count_faults.result ≡ length (faults audit.findings) = c.count_faults.ensures
    ∙ ap (λ found. length (faults found)) c.as_slice.ensures in
    let given = c.in_ok-audit.ensures.given in
    (given.0, given.1, (audit, given.2, count, c.in_ok-write_audit_objects.ensures.all))
