use Rattle.std.proofs.Common.{◌≡◌, subst}
use Rattle.std.proofs.lemmas.Result.{err_from_is_err_and}
use Rattle.icescan_columns.specs.Columns.{IsOfMetadata, made_of, told}
use Rattle.icescan_columns.proofs.Reading.{metadata_ends}
use Rattle.icescan_text.specs.declared.fault.RunFault.TheVariants as run
use Rattle.icescan_columns.proofs.asked.write_told.Goals as goal

pub returns-in_err-text-clause-refused : goal.returns-in_err-text-clause-refused
returns-in_err-text-clause-refused g c =
    let p = err_from_is_err_and c.from_residual.result c.from_residual.ensures.1 in
    rw (p.1, p.2) (metadata_ends (made_of (told c.args.asked.now) c.args.metadata.now)
    (g.W.Sink.may_fail c.args.output.now) c.in_err-text.field-0.0 c.in_err-text.ensures.causes
    c.in_err-text.ensures.gives)

pub returns-in_err-text-clause-front : goal.returns-in_err-text-clause-front
returns-in_err-text-clause-front g c =
    let p = err_from_is_err_and c.from_residual.result c.from_residual.ensures.1 in
    rw (p.1, p.2) (λ is.
    let failed : c.in_err-text.field-0.0 ≡ run.Write = cc in
    absurd (subst IsOfMetadata failed c.in_err-text.ensures.causes))

pub returns-in_err-write_all-clause-refused : goal.returns-in_err-write_all-clause-refused
returns-in_err-write_all-clause-refused g c =
    let p = err_from_is_err_and c.from_residual-in_err-write_all.result c.from_residual-in_err-write_all.ensures.1 in
    rw (p.1, p.2) c.in_err-write_all.ensures.cause

pub returns-in_err-write_all-clause-front : goal.returns-in_err-write_all-clause-front
returns-in_err-write_all-clause-front g c =
    let front = rw c.deref.ensures.value at c.in_err-write_all.ensures.front in
    λ is. (c.in_ok-text.text.items, c.in_ok-text.ensures.gives, front)

pub returns-clause-written : goal.returns-clause-written
returns-clause-written g c =
    let all = rw c.deref.ensures.value at c.in_ok-write_all.ensures.all in
    (c.in_ok-text.text.items, c.in_ok-text.ensures.gives, all)
