use Rattle.std.proofs.Common.{◌≡◌, ap}
use Rattle.std.specs.Prelude.{Err}
use Rattle.icescan_text.specs.declared.fault.RunFault.TheVariants as run
use Rattle.std.proofs.lemmas.Result.{err_from_is_err_and}
use Rattle.ice_desk.specs.Worlds.{EndsAt}
use Rattle.icescan_changes.specs.Answers.{changes_at, changes_reads_at}
use Rattle.icescan_text.proofs.Steps.{may_write}
use Rattle.icescan_changes.proofs.running.changes_file.Goals as goal

pub returns-in_err-text-clause-workers : goal.returns-in_err-text-clause-workers
returns-in_err-text-clause-workers g c =
    let p = err_from_is_err_and c.from_residual.result c.from_residual.ensures.1 in
    rw (p.1, p.2) (λ out. let is = c.in_err-text.ensures.workers out in cc)

pub returns-in_err-write_all-clause-workers : goal.returns-in_err-write_all-clause-workers
returns-in_err-write_all-clause-workers g c = λ out. let is = c.in_ok-text.ensures.workers out in absurd cc

pub returns-clause-workers : goal.returns-clause-workers
returns-clause-workers g c = λ out. let is = c.in_ok-text.ensures.workers out in absurd cc

pub returns-in_err-text-clause-refused : goal.returns-in_err-text-clause-refused
returns-in_err-text-clause-refused g c =
    let p = err_from_is_err_and c.from_residual.result c.from_residual.ensures.1 in
    λ world told. rw (p.1, p.2)
    (may_write (EndsAt world (g.F.Files.may_fail c.args.files.now)
    (changes_reads_at world c.args.path.now c.args.request.now)) (g.W.Sink.may_fail c.args.output.now)
    (changes_at c.args.format world c.args.path.now c.args.request.now c.args.workers) c.in_err-text.field-0.0
    (c.in_err-text.ensures.refused world told))

pub returns-in_err-text-clause-front : goal.returns-in_err-text-clause-front
returns-in_err-text-clause-front g c =
    let p = err_from_is_err_and c.from_residual.result c.from_residual.ensures.1 in
    λ world told. rw (p.1, p.2) (λ is.
    let failed : c.in_err-text.field-0.0 ≡ run.Write = cc in
    absurd (c.in_err-text.ensures.write (ap Err failed)))

pub returns-in_err-write_all-clause-refused : goal.returns-in_err-write_all-clause-refused
returns-in_err-write_all-clause-refused g c =
    let p = err_from_is_err_and c.from_residual-in_err-write_all.result c.from_residual-in_err-write_all.ensures.1 in
    λ world told. rw (p.1, p.2) c.in_err-write_all.ensures.cause

pub returns-in_err-write_all-clause-front : goal.returns-in_err-write_all-clause-front
returns-in_err-write_all-clause-front g c =
    let front = rw c.deref.ensures.value at c.in_err-write_all.ensures.front in
    λ world told is. (c.in_ok-text.text.items, c.in_ok-text.ensures.found world told, front)

pub returns-clause-written : goal.returns-clause-written
returns-clause-written g c =
    let all = rw c.deref.ensures.value at c.in_ok-write_all.ensures.all in
    λ world told. (c.in_ok-text.text.items, c.in_ok-text.ensures.found world told, all)

pub returns-clause-given : goal.returns-clause-given
returns-clause-given g c =
    let all = rw c.deref.ensures.value at c.in_ok-write_all.ensures.all in
    let given = c.in_ok-text.ensures.given in
    (given.0, given.1, (c.in_ok-text.text.items, given.2, all))
