use Rattle.std.proofs.lemmas.Result.{err_from_is_err_and}
use Rattle.icescan_changes.specs.Answers.{changes_reads_at}
use Rattle.icescan_commands.specs.Runs.{changes_in}
use Rattle.icescan_commands.proofs.Opened.{opened_ran, unopened_ran}
use Rattle.icescan_commands.proofs.Reading.{changes_below}
use Rattle.icescan_commands.proofs.arms.changes.Goals as goal

pub returns-in_err-files-clause-ran : goal.returns-in_err-files-clause-ran
returns-in_err-files-clause-ran g c =
    let p = err_from_is_err_and c.from_residual.result c.from_residual.ensures.1 in
    let no = c.in_err-files.ensures.refused in
    let path = c.args.table.now.path.now in
    rw (p.1, p.2) (
      no.0,
      no.1,
      unopened_ran (g.S.Folders.below c.args.system.now.folders.now)
          (g.S.Folders.may_fail c.args.system.now.folders.now) no.0
          (λ world. changes_in c.args.format world path c.args.request.now c.args.workers)
          (λ world. changes_reads_at world path c.args.request.now) c.args.table.now.source.now
          (g.W.Sink.may_fail c.args.output.now) _
          c.in_err-files.field-0.0 no.2,
    )

pub returns-clause-ran : goal.returns-clause-ran
returns-clause-ran g c =
    let opened = c.in_ok-files.ensures.opened in
    let path = c.as_str-path.result.now in
    let ran = c.write_changes-answer in
    let told = opened_ran (g.S.Folders.below c.args.system.now.folders.now)
    (g.S.Folders.may_fail c.args.system.now.folders.now) opened.0 c.args.table.now.source.now _ _ opened.2
    (λ world. changes_in c.args.format world path c.args.request.now c.args.workers)
    (λ world. changes_reads_at world path c.args.request.now) (g.W.Sink.may_fail c.args.output.now)
    ran.result _ _ (λ v told. ran.ensures.answers v told) ran.ensures.refusal.nothing in
    (opened.0, opened.1, rw c.as_str-path.ensures at told)

pub returns-clause-given : goal.returns-clause-given
returns-clause-given g c =
    let path = c.as_str-path.result.now in
    let wrote = changes_below (g.S.Folders.gives c.args.system.now.folders.now) c.args.table.now.source.now _
    c.in_ok-files.ensures.given c.args.format path c.args.request.now c.args.workers c.write_changes-answer.result _ _
    c.write_changes-answer.ensures.given in
    rw c.as_str-path.ensures at wrote
