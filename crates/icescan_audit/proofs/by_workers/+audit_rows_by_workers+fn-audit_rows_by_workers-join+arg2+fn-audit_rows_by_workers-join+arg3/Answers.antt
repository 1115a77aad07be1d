use Rattle.std.proofs.lemmas.Result.{err_from_is_err_and}
use Rattle.icescan_audit.proofs.Ranges.{reads_both, refused_behind, refused_first}
use Rattle.icescan_audit.proofs.by_workers.+audit_rows_by_workers+fn-audit_rows_by_workers-join+arg2+fn-audit_rows_by_workers-join+arg3.Goals as goal

pub returns-in_err-first : goal.returns-in_err-first
returns-in_err-first g t c =
    let p = err_from_is_err_and c.from_residual.result c.from_residual.ensures.1 in
    let first = rw c.in_err-first.was at c.join-first.ensures.first in
    rw (p.1, p.2)
    (refused_first (g.F.Files.world c.args.files.now) (g.F.Files.may_fail c.args.files.now)
    (g.F.Files.gives c.args.files.now) c.args.basis.now c.args.rows.now _ _ c.split_at.ensures.by_index.0
    c.in_err-first.field-0.0 first)

pub returns-in_err-others : goal.returns-in_err-others
returns-in_err-others g t c =
    let p = err_from_is_err_and c.from_residual-in_err-others.result c.from_residual-in_err-others.ensures.1 in
    let first = rw c.in_ok-first.was at c.join-first.ensures.first in
    let others = rw c.in_err-others.was at c.join-first.ensures.second in
    rw (p.1, p.2)
    (refused_behind (g.F.Files.world c.args.files.now) (g.F.Files.may_fail c.args.files.now)
    (g.F.Files.gives c.args.files.now) c.args.basis.now c.args.rows.now _ _ c.split_at.ensures.by_index.0
    c.in_ok-first.field-0 c.in_err-others.field-0.0 first others)

pub returns : goal.returns
returns g t c =
    let first = rw c.in_ok-first.was at c.join-first.ensures.first in
    let others = rw c.in_ok-others.was at c.join-first.ensures.second in
    rw c.in_ok-joined.ensures
    (reads_both (g.F.Files.world c.args.files.now) (g.F.Files.may_fail c.args.files.now)
    (g.F.Files.gives c.args.files.now) c.args.basis.now c.args.rows.now _ _ c.split_at.ensures.by_index.0
    c.in_ok-first.field-0 c.in_ok-others.field-0 first others)
