use Rattle.std.proofs.Common.{◌≡◌, ◌∙◌, ap, length, sym}
use Rattle.std.specs.Prelude.{Err}
use Rattle.icescan_text.specs.declared.fault.RunFault.TheVariants as run
use Rattle.std.proofs.lemmas.Result.{err_from_is_err_and}
use Rattle.ice_desk.specs.Worlds.{EndsAt}
use Rattle.icescan_audit_findings.specs.Telling.{faults}
use Rattle.icescan_audit.specs.Audits.{audit_of, audit_reads}
use Rattle.icescan_audit.proofs.AnyFiles.{writes_stop}
use Rattle.icescan_audit.proofs.Premise.{none_at_zero}
use Rattle.icescan_text.proofs.Steps.{may_write}
use Rattle.icescan_audit.proofs.running.run_audit.Goals as goal

pub returns-in_err-audit-clause-refused : goal.returns-in_err-audit-clause-refused
returns-in_err-audit-clause-refused g c =
    let p = err_from_is_err_and c.from_residual.result c.from_residual.ensures.1 in
    λ world told. rw (p.1, p.2)
    (may_write (EndsAt world (g.F.Files.may_fail c.args.files.now)
    (audit_reads world c.args.metadata.now c.args.target.now)) (g.W.Sink.may_fail c.args.output.now)
    (audit_of world c.args.metadata.now c.args.target.now) c.in_err-audit.field-0.0
    (c.in_err-audit.ensures.answer world told).1)

pub returns-in_err-audit-clause-front : goal.returns-in_err-audit-clause-front
returns-in_err-audit-clause-front g c =
    let p = err_from_is_err_and c.from_residual.result c.from_residual.ensures.1 in
    λ world told. rw (p.1, p.2) (λ is.
    let failed : c.in_err-audit.field-0.0 ≡ run.Write = cc in
    absurd (c.in_err-audit.ensures.write (ap Err failed)))

pub returns-in_err-write_audit-clause-refused : goal.returns-in_err-write_audit-clause-refused
returns-in_err-write_audit-clause-refused g c =
    let p = err_from_is_err_and c.from_residual-in_err-write_audit.result c.from_residual-in_err-write_audit.ensures.1
    in
    λ world told. rw (p.1, p.2) c.in_err-write_audit.ensures.cause

pub returns-in_err-write_audit-clause-front : goal.returns-in_err-write_audit-clause-front
returns-in_err-write_audit-clause-front g c =
    let front = c.in_err-write_audit.ensures.front in
    λ world told is. (c.in_ok-audit.audit, (c.in_ok-audit.ensures.answer world told).0, front)

pub returns-clause-truth : goal.returns-clause-truth
returns-clause-truth g c =
    let audit = c.in_ok-audit.audit in
    let count : c.count_faults.result ≡ length (faults audit.findings) = c.count_faults.ensures
    ∙ ap (λ found. length (faults found)) c.as_slice.ensures in
    λ world told none.
    (c.audits_tell_of_summaries.ensures world c.args.metadata.now c.args.target.now audit
    (c.in_ok-audit.ensures.answer world told).0).0 (none_at_zero audit.findings (sym count ∙ none))

pub returns-clause-written : goal.returns-clause-written
returns-clause-written g c =
    let audit = c.in_ok-audit.audit in
    let count : c.count_faults.result ≡ length (faults audit.findings) = c.count_faults.ensures
    ∙ ap (λ found. length (faults found)) c.as_slice.ensures in
    let all = c.in_ok-write_audit.ensures.all in
    λ world told. (audit, (c.in_ok-audit.ensures.answer world told).0, count, all)

pub returns-in_err-audit-clause-text : goal.returns-in_err-audit-clause-text
returns-in_err-audit-clause-text g c =
    let p = err_from_is_err_and c.from_residual.result c.from_residual.ensures.1 in
    rw (p.1, p.2) (record {
      all = tt;
      front = λ is.
          let failed : c.in_err-audit.field-0.0 ≡ run.Write = cc in
          absurd (c.in_err-audit.ensures.write (ap Err failed));
    })

pub returns-in_err-audit-clause-refusal : goal.returns-in_err-audit-clause-refusal
returns-in_err-audit-clause-refusal g c =
    let p = err_from_is_err_and c.from_residual.result c.from_residual.ensures.1 in
    rw (p.1, p.2)
    (writes_stop (g.F.Files.world c.args.files.now) (g.F.Files.may_fail c.args.files.now)
    (g.W.Sink.may_fail c.args.output.now) c.in_err-audit.field-0.0 c.in_err-audit.ensures.stops)

pub returns-in_err-write_audit-clause-text : goal.returns-in_err-write_audit-clause-text
returns-in_err-write_audit-clause-text g c =
    let front = c.in_err-write_audit.ensures.front in
    let p = err_from_is_err_and c.from_residual-in_err-write_audit.result c.from_residual-in_err-write_audit.ensures.1
    in
    rw (p.1, p.2)
    (record { all = tt; front = λ is. (c.in_ok-audit.audit, c.in_ok-audit.ensures.read, front) })

pub returns-in_err-write_audit-clause-refusal : goal.returns-in_err-write_audit-clause-refusal
returns-in_err-write_audit-clause-refusal g c =
    let p = err_from_is_err_and c.from_residual-in_err-write_audit.result c.from_residual-in_err-write_audit.ensures.1
    in
    rw (p.1, p.2) c.in_err-write_audit.ensures.cause

pub returns-clause-text : goal.returns-clause-text
returns-clause-text g c =
    let audit = c.in_ok-audit.audit in
    let count : c.count_faults.result ≡ length (faults audit.findings) = c.count_faults.ensures
    ∙ ap (λ found. length (faults found)) c.as_slice.ensures in
    let all = c.in_ok-write_audit.ensures.all in
    record { all = (audit, c.in_ok-audit.ensures.read, count, all); front = λ is. absurd cc }
