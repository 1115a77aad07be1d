use Rattle.std.proofs.lemmas.Result.{err_from_is_err_and}
use Rattle.icescan_audit.proofs.NextManifest.{more, no_entries}
use Rattle.icescan_audit.proofs.handed.read_row.Goals as goal

pub returns-in_err-number-clause-gives : goal.returns-in_err-number-clause-gives
returns-in_err-number-clause-gives c =
    let p = err_from_is_err_and c.from_residual-in_err-number.result c.from_residual-in_err-number.ensures.1 in
    let known = rw c.as_slice.ensures at c.in_ok-spec.ensures.ok in
    rw (p.1, p.2) (no_entries c.args.basis.now c.args.before c.args.manifest.now c.args.row.now c.in_ok-spec.spec.now
    known c.in_err-number.field-0.0 c.in_err-number.ensures.refused)

pub returns-clause-gives : goal.returns-clause-gives
returns-clause-gives c =
    let known = rw c.as_slice.ensures at c.in_ok-spec.ensures.ok in
    let found = rw c.into_vec-live.ensures at c.in_ok-number.ensures.found in
    rw c.from_vec.ensures (more c.args.basis.now c.args.before c.args.manifest.now c.args.row.now
    c.in_ok-spec.spec.now known _ _ _ found)
