use Rattle.std.proofs.Common.{inl, List, ℕ, Some, subst, sym}
use Rattle.std.proofs.lemmas.Result.{err_from_is_err_and}
use Rattle.icescan_reachable.proofs.Causes.{list_fault}
use Rattle.icescan_text.proofs.Steps.{rows_read}
use Rattle.icescan_reachable.proofs.lists.rows_at.Goals as goal

pub returns-in_err-bytes-clause-causes : goal.returns-in_err-bytes-clause-causes
returns-in_err-bytes-clause-causes g c =
    let p = err_from_is_err_and c.from_residual.result c.from_residual.ensures.1 in
    rw (p.1, p.2) (inl c.in_err-bytes.ensures.unread)

pub returns-in_err-read_list-clause-causes : goal.returns-in_err-read_list-clause-causes
returns-in_err-read_list-clause-causes g c =
    let gives = g.F.Files.gives c.args.files.now in
    let p = err_from_is_err_and c.from_residual-in_err-read_list.result c.from_residual-in_err-read_list.ensures.1 in
    let given = subst (λ (bytes : List ℕ). gives c.args.list.now (Some bytes)) (sym c.deref.ensures.value)
    c.in_ok-bytes.ensures.given in
    rw (p.1, p.2) (list_fault gives (g.F.Files.may_fail c.args.files.now) c.args.list.now c.deref.result.now
    c.in_err-read_list.field-0.0 given c.in_err-read_list.ensures.exact)

pub returns-clause-given : goal.returns-clause-given
returns-clause-given g c = (
  c.deref.result.now,
  subst (λ (bytes : List ℕ). g.F.Files.gives c.args.files.now c.args.list.now (Some bytes))
      (sym c.deref.ensures.value) c.in_ok-bytes.ensures.given,
  rows_read c.deref.result.now _ c.in_ok-read_list.ensures.exact,
)
