use Rattle.std.proofs.Common.{◌≡◌, subst, sym}
use Rattle.std.proofs.lemmas.Result.{err_from_is_err_and}
use Rattle.icescan_text.specs.declared.fault.RunFault.TheVariants as run
use Rattle.icescan_text.specs.Faults.{of_prepare}
use Rattle.icescan_commits.proofs.Commits.{IsOfReading, bad_metadata, fault_prepares, not_prepared}
use Rattle.icescan_commits.proofs.Commits.{prepare_reads_nothing}
use Rattle.icescan_commits.proofs.Commits.{prepared}
use Rattle.icescan_commits.proofs.GivenCommits.{committed_given}
use Rattle.icescan_commits.proofs.committing.prepare_from.Goals as goal

pub returns-in_err-metadata-clause-refused : goal.returns-in_err-metadata-clause-refused
returns-in_err-metadata-clause-refused g c =
    let p = err_from_is_err_and c.from_residual.result c.from_residual.ensures.1 in
    let f = g.F.Files.may_fail c.args.files.now in
    λ world told.
    rw (p.1, p.2) (bad_metadata f world _ (record { change = c.args.change.now; ids = c.args.ids })
    c.in_err-metadata.field-0.0 c.in_err-metadata.ensures)

pub returns-in_err-prepare_in_place-clause-refused : goal.returns-in_err-prepare_in_place-clause-refused
returns-in_err-prepare_in_place-clause-refused g c =
    let p = err_from_is_err_and c.from_residual-in_err-prepare_in_place.result c.from_residual-in_err-prepare_in_place.ensures.1 in
    let f = g.F.Files.may_fail c.args.files.now in
    λ world told.
    rw (p.1, p.2)
    (not_prepared f world _ (record { change = c.args.change.now; ids = c.args.ids }) _ c.in_ok-metadata.ensures
    c.in_ok-kept.kept (c.in_ok-kept.ensures.base world told) c.in_ok-base.base c.in_ok-base.ensures.version
    c.in_err-prepare_in_place.field-0.0 c.in_err-prepare_in_place.ensures.prepared)

pub returns-in_err-prepare_in_place-clause-causes : goal.returns-in_err-prepare_in_place-clause-causes
returns-in_err-prepare_in_place-clause-causes g c =
    let p = err_from_is_err_and c.from_residual-in_err-prepare_in_place.result c.from_residual-in_err-prepare_in_place.ensures.1 in
    rw (p.1, p.2) (fault_prepares c.in_err-prepare_in_place.field-0.0)

pub returns-clause-prepared : goal.returns-clause-prepared
returns-clause-prepared g c =
    let f = g.F.Files.may_fail c.args.files.now in
    λ world told.
    prepared f world _ (record { change = c.args.change.now; ids = c.args.ids }) _ c.in_ok-metadata.ensures
    c.in_ok-kept.kept (c.in_ok-kept.ensures.base world told) c.in_ok-base.base c.in_ok-base.ensures.version
    c.in_ok-prepare_in_place.field-0 c.in_ok-prepare_in_place.ensures.prepared

pub returns-in_err-prepare_in_place-clause-absent : goal.returns-in_err-prepare_in_place-clause-absent
returns-in_err-prepare_in_place-clause-absent g c =
    let p = err_from_is_err_and c.from_residual-in_err-prepare_in_place.result c.from_residual-in_err-prepare_in_place.ensures.1 in
    let e = c.in_err-prepare_in_place.field-0.0 in
    rw (p.1, p.2) (λ path is.
    let same : of_prepare e ≡ run.Absent path = cc in
    absurd (prepare_reads_nothing e (subst IsOfReading (sym same) tt)))

pub returns-in_err-prepare_in_place-clause-device : goal.returns-in_err-prepare_in_place-clause-device
returns-in_err-prepare_in_place-clause-device g c =
    let p = err_from_is_err_and c.from_residual-in_err-prepare_in_place.result c.from_residual-in_err-prepare_in_place.ensures.1 in
    let e = c.in_err-prepare_in_place.field-0.0 in
    rw (p.1, p.2) (λ path is.
    let same : of_prepare e ≡ run.Device path = cc in
    absurd (prepare_reads_nothing e (subst IsOfReading (sym same) tt)))

pub returns-clause-given : goal.returns-clause-given
returns-clause-given g c =
    committed_given (g.F.Files.gives c.args.files.now) _ (record { change = c.args.change.now; ids = c.args.ids }) _
    c.in_ok-metadata.ensures c.in_ok-kept.kept c.in_ok-kept.ensures.given c.in_ok-base.base
    c.in_ok-base.ensures.version c.in_ok-prepare_in_place.field-0 c.in_ok-prepare_in_place.ensures.prepared

pub returns-in_err-prepare_in_place-clause-none_given : goal.returns-in_err-prepare_in_place-clause-none_given
returns-in_err-prepare_in_place-clause-none_given g c =
    let p = err_from_is_err_and c.from_residual-in_err-prepare_in_place.result c.from_residual-in_err-prepare_in_place.ensures.1 in
    let e = c.in_err-prepare_in_place.field-0.0 in
    rw (p.1, p.2) (λ path is.
    let same : of_prepare e ≡ run.Absent path = cc in
    absurd (prepare_reads_nothing e (subst IsOfReading (sym same) tt)))
