use Rattle.std.proofs.Common.{ap, sym, ◌∙◌}
use Rattle.std.specs.Prelude.{Ok}
use Rattle.std.proofs.lemmas.Result.{err_from_is_err_and}
use Rattle.icescan_shared_manifests.proofs.Rising.{rising_given}
use Rattle.icescan_shared_manifests.proofs.Selecting.{both_there, few_planned, no_earlier, no_later}
use Rattle.icescan_shared_manifests.proofs.both_rows.select_both.Goals as goal

pub returns-in_err-earlier-clause-refused : goal.returns-in_err-earlier-clause-refused
returns-in_err-earlier-clause-refused g c =
    let p = err_from_is_err_and c.from_residual.result c.from_residual.ensures.1 in
    λ world told. rw (p.1, p.2)
    (no_earlier (g.F.Files.may_fail c.args.files.now) world c.args.metadata.now c.args.request.now
    c.in_err-earlier.field-0.0 (c.in_err-earlier.ensures.refused world told))

pub returns-in_err-later-clause-refused : goal.returns-in_err-later-clause-refused
returns-in_err-later-clause-refused g c =
    let p = err_from_is_err_and c.from_residual-in_err-later.result c.from_residual-in_err-later.ensures.1 in
    λ world told. rw (p.1, p.2)
    (no_later (g.F.Files.may_fail c.args.files.now) world c.args.metadata.now c.args.request.now
    c.in_ok-earlier.earlier (c.in_ok-earlier.ensures.found world told) c.in_err-later.field-0.0
    (c.in_err-later.ensures.refused world told))

pub planned-requires-clause-earlier : goal.planned-requires-clause-earlier
planned-requires-clause-earlier g c =
    let listed = c.in_ok-earlier.ensures.given.listed in
    rising_given listed.0 c.in_ok-earlier.earlier.rows listed.2

pub planned-requires-clause-later : goal.planned-requires-clause-later
planned-requires-clause-later g c =
    let listed = c.in_ok-later.ensures.given.listed in
    rising_given listed.0 c.in_ok-later.later.rows listed.2

pub returns-clause-found : goal.returns-clause-found
returns-clause-found g c =
    let planned = rw c.is_unfiltered.ensures at c.in_ok-planned.ensures in
    λ world told.
    both_there (g.F.Files.may_fail c.args.files.now) world c.args.metadata.now c.args.request.now
    c.in_ok-earlier.earlier (c.in_ok-earlier.ensures.found world told) c.in_ok-later.later
    (c.in_ok-later.ensures.found world told) ∙ ap Ok (sym planned)

pub returns-in_err-planned-clause-refused : goal.returns-in_err-planned-clause-refused
returns-in_err-planned-clause-refused g c =
    let p = err_from_is_err_and c.from_residual-in_err-planned.result c.from_residual-in_err-planned.ensures.1 in
    λ world told. rw (p.1, p.2) tt

pub returns-clause-few : goal.returns-clause-few
returns-clause-few g c =
    few_planned _ c.in_ok-earlier.earlier c.in_ok-later.later c.in_ok-planned.field-0 c.in_ok-planned.ensures
    c.in_ok-earlier.ensures.few c.in_ok-later.ensures.few

pub returns-clause-given : goal.returns-clause-given
returns-clause-given g c = record {
  earlier = c.in_ok-earlier.earlier;
  earlier_is = c.in_ok-earlier.ensures.given;
  later = c.in_ok-later.later;
  later_is = c.in_ok-later.ensures.given;
  is = rw c.is_unfiltered.ensures at c.in_ok-planned.ensures;
}
