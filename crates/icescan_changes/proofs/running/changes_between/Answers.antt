use Rattle.std.proofs.Common.{◌∙◌, ap, sym}
use Rattle.std.specs.Prelude.{Ok}
use Rattle.std.proofs.lemmas.Result.{err_from_is_err_and}
use Rattle.icescan_changes.proofs.Asking.{changes_there, no_earlier, no_later}
use Rattle.icescan_changes.proofs.running.changes_between.Goals as goal

pub returns-in_err-earlier-clause-refused : goal.returns-in_err-earlier-clause-refused
returns-in_err-earlier-clause-refused g c =
    let p = err_from_is_err_and c.from_residual.result c.from_residual.ensures.1 in
    λ world told. rw (p.1, p.2)
    (no_earlier (g.F.Files.may_fail c.args.files.now) c.args.format world c.args.both c.in_err-earlier.field-0.0
    (c.in_err-earlier.ensures.answer world told).1)

pub returns-in_err-later-clause-refused : goal.returns-in_err-later-clause-refused
returns-in_err-later-clause-refused g c =
    let p = err_from_is_err_and c.from_residual-in_err-later.result c.from_residual-in_err-later.ensures.1 in
    λ world told. rw (p.1, p.2)
    (no_later (g.F.Files.may_fail c.args.files.now) c.args.format world c.args.both c.in_ok-earlier.earlier
    (c.in_ok-earlier.ensures.answer world told).0 c.in_err-later.field-0.0 (c.in_err-later.ensures.answer world told).1)

pub returns-clause-found : goal.returns-clause-found
returns-clause-found g c =
    let text = rw (c.lines.ensures, c.lines-2.ensures) at c.in_ok-changes_told.ensures in
    λ world told.
    changes_there (g.F.Files.may_fail c.args.files.now) c.args.format world c.args.both c.in_ok-earlier.earlier
    (c.in_ok-earlier.ensures.answer world told).0 c.in_ok-later.later (c.in_ok-later.ensures.answer world told).0
    ∙ ap Ok (sym text)

pub returns-in_err-changes_told-clause-refused : goal.returns-in_err-changes_told-clause-refused
returns-in_err-changes_told-clause-refused g c =
    let p = err_from_is_err_and c.from_residual-in_err-changes_told.result
    c.from_residual-in_err-changes_told.ensures.1 in
    λ world told. rw (p.1, p.2) tt

pub returns-clause-given : goal.returns-clause-given
returns-clause-given g c =
    let text = rw (c.lines.ensures, c.lines-2.ensures) at c.in_ok-changes_told.ensures in
    record {
      earlier = c.in_ok-earlier.earlier;
      earlier_is = c.in_ok-earlier.ensures.given;
      later = c.in_ok-later.later;
      later_is = c.in_ok-later.ensures.given;
      is = text;
    }
