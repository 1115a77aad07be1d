use Rattle.std.proofs.Common.{ap, sym, ◌∙◌, List, ℕ, Some, subst}
use Rattle.std.specs.Prelude.{Ok}
use Rattle.std.proofs.lemmas.Result.{err_from_is_err_and}
use Rattle.icescan_text.proofs.Steps.{no_file, no_rows, rows_read, rows_there}
use Rattle.icescan_text.proofs.reading.read_rows.Goals as goal

pub returns-in_err-bytes-clause-refused : goal.returns-in_err-bytes-clause-refused
returns-in_err-bytes-clause-refused g c =
    let p = err_from_is_err_and c.from_residual.result c.from_residual.ensures.1 in
    λ world told. rw (p.1, p.2)
    (no_file (g.F.Files.may_fail c.args.files.now) world c.args.list.now c.in_err-bytes.field-0.0
    (c.in_err-bytes.ensures.refused world told))

pub returns-in_err-read_list-clause-refused : goal.returns-in_err-read_list-clause-refused
returns-in_err-read_list-clause-refused g c =
    let p = err_from_is_err_and c.from_residual-in_err-read_list.result c.from_residual-in_err-read_list.ensures.1 in
    λ world told.
    let has = c.in_ok-bytes.ensures.found world told ∙ ap Ok (sym c.deref.ensures.value) in
    rw (p.1, p.2) (no_rows (g.F.Files.may_fail c.args.files.now) world c.args.list.now c.deref.result.now has
    c.in_err-read_list.field-0.0 c.in_err-read_list.ensures.exact)

pub returns-clause-found : goal.returns-clause-found
returns-clause-found g c =
    λ world told.
    let has = c.in_ok-bytes.ensures.found world told ∙ ap Ok (sym c.deref.ensures.value) in
    rows_there (g.F.Files.may_fail c.args.files.now) world c.args.list.now c.deref.result.now _ has
    c.in_ok-read_list.ensures.exact

pub returns-clause-given : goal.returns-clause-given
returns-clause-given g c = (
  c.deref.result.now,
  subst (λ (bytes : List ℕ). g.F.Files.gives c.args.files.now c.args.list.now (Some bytes))
      (sym c.deref.ensures.value) c.in_ok-bytes.ensures.given,
  rows_read c.deref.result.now _ c.in_ok-read_list.ensures.exact,
)
