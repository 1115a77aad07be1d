use Rattle.std.proofs.Common.{◌≡◌, length, subst, sym}
use Rattle.std.specs.Prelude.{IfOk, Result}
use Rattle.std.proofs.lemmas.Result.{err_from_is_err_and, IfOk-weaker}
use Rattle.icescan_audit.specs.Audits.{audit_at, audit_reads_at}
use Rattle.icescan_audit.specs.declared.audit.Audit.{Audit}
use Rattle.icescan_audit_findings.specs.Telling.{faults}
use Rattle.icescan_text.specs.declared.fault.RunFault.{RunFault}
use Rattle.icescan_commands.specs.Runs.{audit_in, ended}
use Rattle.icescan_commands.proofs.Answering.{gives_audited, still_nothing}
use Rattle.icescan_commands.proofs.Opened.{opened_count, opened_ran, unopened_ran}
use Rattle.icescan_commands.proofs.Reading.{audit_below}
use Rattle.icescan_commands.proofs.arms.audit.Goals as goal

pub returns-in_err-files-clause-ran : goal.returns-in_err-files-clause-ran
returns-in_err-files-clause-ran g c =
    let p = err_from_is_err_and c.from_residual.result c.from_residual.ensures.1 in
    let no = c.in_err-files.ensures.refused in
    let path = c.args.table.now.path.now in
    rw (p.1, p.2) (
      no.0,
      no.1,
      unopened_ran (g.S.Folders.below c.args.system.now.folders.now)
          (g.S.Folders.may_fail c.args.system.now.folders.now) no.0
          (λ world. audit_in c.args.format world path c.args.target.now c.args.workers)
          (λ world. audit_reads_at world path c.args.target.now) c.args.table.now.source.now
          (g.W.Sink.may_fail c.args.output.now) _
          c.in_err-files.field-0.0 no.2,
      tt,
    )

pub returns-clause-ran : goal.returns-clause-ran
returns-clause-ran g c =
    let below = g.S.Folders.below c.args.system.now.folders.now in
    let may_fail = g.S.Folders.may_fail c.args.system.now.folders.now in
    let opened = c.in_ok-files.ensures.opened in
    let from = c.args.table.now.source.now in
    let path = c.as_str-path.result.now in
    let target = c.args.target.now in
    let workers = c.args.workers in
    let ran = c.write_audit-answer in
    let told = opened_ran below may_fail opened.0 from _ _ opened.2
    (λ world. audit_in c.args.format world path target workers)
    (λ world. audit_reads_at world path target) (g.W.Sink.may_fail c.args.output.now) (ended ran.result) _ _
    (λ v told. gives_audited c.args.format (audit_at v path target workers) _ _ ran.result _ _
    (ran.ensures.written v told)
    (ran.ensures.refused v told) (ran.ensures.front v told)) (still_nothing ran.result _ _ ran.ensures.nothing) in
    let counted = opened_count below may_fail opened.0
    (λ n (read : Result Audit RunFault). IfOk read (λ (audit : Audit). n ≡ length (faults audit.findings))) from _ _
    opened.2 (λ world. audit_at world path target workers) ran.result
    (λ v told. IfOk-weaker ran.result _ _
    (λ count w. subst (λ read. IfOk read (λ (audit : Audit). count ≡ length (faults audit.findings))) (sym w.1) w.2)
    (ran.ensures.written v told)) in
    (opened.0, opened.1, rw c.as_str-path.ensures at told, rw c.as_str-path.ensures at counted)

pub returns-clause-given : goal.returns-clause-given
returns-clause-given g c =
    let path = c.as_str-path.result.now in
    let wrote = audit_below (g.S.Folders.gives c.args.system.now.folders.now) c.args.table.now.source.now _
    c.in_ok-files.ensures.given c.args.format path c.args.target.now c.args.workers c.write_audit-answer.result _ _
    c.write_audit-answer.ensures.given in
    rw c.as_str-path.ensures at wrote
