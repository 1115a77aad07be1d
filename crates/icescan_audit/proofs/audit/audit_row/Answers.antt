use Rattle.std.proofs.Common.{◌∙◌, ap, refl, sym}
use Rattle.std.specs.Prelude.{Ok, Some}
use Rattle.std.proofs.lemmas.Result.{err_from_is_err_and}
use Rattle.ice_manifest_reading.specs.Manifests.{live_of}
use Rattle.ice_state.specs.Specs.{spec_of}
use Rattle.icescan_audit.proofs.AnyFiles.{given, manifest_stops, read_stops, spec_stops}
use Rattle.icescan_audit.proofs.Steps.{no_bytes, no_entries, no_spec, row_there}
use Rattle.icescan_audit.proofs.audit.audit_row.Goals as goal

pub returns-in_err-spec-clause-refused : goal.returns-in_err-spec-clause-refused
returns-in_err-spec-clause-refused g c =
    let p = err_from_is_err_and c.from_residual.result c.from_residual.ensures.1 in
    let none = rw c.as_slice.ensures at c.in_err-spec.ensures.err in
    λ world told. rw (p.1, p.2)
    (no_spec (g.F.Files.may_fail c.args.files.now) world c.args.basis.now c.args.row.now c.in_err-spec.field-0.0 none)

pub returns-in_err-read_file_into-clause-refused : goal.returns-in_err-read_file_into-clause-refused
returns-in_err-read_file_into-clause-refused g c =
    let p = err_from_is_err_and c.from_residual-in_err-read_file_into.result
    c.from_residual-in_err-read_file_into.ensures.1 in
    let known = rw c.as_slice.ensures at c.in_ok-spec.ensures.ok in
    λ world told.
    let refused = rw c.as_str.ensures at (c.in_err-read_file_into.ensures.refused world told) in
    rw (p.1, p.2)
    (no_bytes (g.F.Files.may_fail c.args.files.now) world c.args.basis.now c.args.row.now c.in_ok-spec.spec.now known
    c.in_err-read_file_into.field-0.0 refused)

pub returns-in_err-entries-clause-refused : goal.returns-in_err-entries-clause-refused
returns-in_err-entries-clause-refused g c =
    let p = err_from_is_err_and c.from_residual-in_err-entries.result c.from_residual-in_err-entries.ensures.1 in
    let known = rw c.as_slice.ensures at c.in_ok-spec.ensures.ok in
    λ world told.
    let has = (rw c.as_str.ensures at (c.in_ok-read_file_into.ensures.found world told))
    ∙ ap Ok (sym c.as_slice-2.ensures.value) in
    rw (p.1, p.2)
    (no_entries (g.F.Files.may_fail c.args.files.now) world c.args.basis.now c.args.row.now c.in_ok-spec.spec.now known
    c.as_slice-2.result.now has c.in_err-entries.field-0.0 c.in_err-entries.ensures.refused)

pub returns-clause-found : goal.returns-clause-found
returns-clause-found g c =
    let known = rw c.as_slice.ensures at c.in_ok-spec.ensures.ok in
    let found = c.in_ok-entries.ensures.found in
    λ world told.
    let has = (rw c.as_str.ensures at (c.in_ok-read_file_into.ensures.found world told))
    ∙ ap Ok (sym c.as_slice-2.ensures.value) in
    let is = row_there (g.F.Files.may_fail c.args.files.now) world c.args.basis.now c.args.row.now
    c.in_ok-spec.spec.now known c.as_slice-2.result.now has found.0 found.1 in
    (_, is, refl, sym found.2, found.3, found.4)

pub returns-in_err-spec-clause-stops : goal.returns-in_err-spec-clause-stops
returns-in_err-spec-clause-stops g c =
    let p = err_from_is_err_and c.from_residual.result c.from_residual.ensures.1 in
    let row = c.args.row.now in
    let none = rw c.as_slice.ensures at c.in_err-spec.ensures.err in
    rw (p.1, p.2)
    (spec_stops (g.F.Files.world c.args.files.now) (g.F.Files.may_fail c.args.files.now) row
    (spec_of c.args.basis.now.specs row.spec_id) c.in_err-spec.field-0.0 none)

pub returns-in_err-read_file_into-clause-stops : goal.returns-in_err-read_file_into-clause-stops
returns-in_err-read_file_into-clause-stops g c =
    let p = err_from_is_err_and c.from_residual-in_err-read_file_into.result
    c.from_residual-in_err-read_file_into.ensures.1 in
    let no = c.in_err-read_file_into.ensures in
    rw (p.1, p.2)
    (read_stops (g.F.Files.world c.args.files.now)
    (g.F.Files.may_fail c.args.files.now) c.in_err-read_file_into.field-0.0
    no.absent no.device no.write)

pub returns-in_err-entries-clause-stops : goal.returns-in_err-entries-clause-stops
returns-in_err-entries-clause-stops g c =
    let p = err_from_is_err_and c.from_residual-in_err-entries.result c.from_residual-in_err-entries.ensures.1 in
    let row = c.args.row.now in
    rw (p.1, p.2)
    (manifest_stops (g.F.Files.world c.args.files.now) (g.F.Files.may_fail c.args.files.now) row.path
    (live_of row c.in_ok-spec.spec.now c.as_slice-2.result.now) c.in_err-entries.field-0.0
    c.in_err-entries.ensures.refused)

pub returns-clause-read : goal.returns-clause-read
returns-clause-read g c =
    let known = rw c.as_slice.ensures at c.in_ok-spec.ensures.ok in
    let found = c.in_ok-entries.ensures.found in
    let row = c.args.row.now in
    let bytes = c.as_slice-2.result.now in
    let is = row_there (g.F.Files.may_fail c.args.files.now) (λ path. Some bytes) c.args.basis.now row
    c.in_ok-spec.spec.now known bytes (given row.path bytes) found.0 found.1 in
    let read = rw (c.as_str.ensures, ← c.as_slice-2.ensures.value) at c.in_ok-read_file_into.ensures.given in
    (_, (bytes, read, is), refl, sym found.2, found.3, found.4)
