use Rattle.std.proofs.Common.{refl, sym}
use Rattle.std.proofs.lemmas.Result.{err_from_is_err_and}
use Rattle.icescan_audit.proofs.AnyFiles.{metadata_stops, read_stops, specs_stop}
use Rattle.icescan_audit.proofs.Steps.{audit_there, metadata_is_no_write, no_audit, no_list, no_specs, not_selected}
use Rattle.icescan_audit.proofs.running.audit_table.Goals as goal

pub returns-in_err-subject-clause-answer : goal.returns-in_err-subject-clause-answer
returns-in_err-subject-clause-answer g c =
    let p = err_from_is_err_and c.from_residual.result c.from_residual.ensures.1 in
    λ world told. rw (p.1, p.2) (
      tt,
      not_selected (g.F.Files.may_fail c.args.files.now) world c.args.metadata.now c.args.target.now
          c.in_err-subject.field-0.0 c.in_err-subject.ensures.causes c.in_err-subject.ensures.gives,
    )

pub returns-in_err-rows-clause-answer : goal.returns-in_err-rows-clause-answer
returns-in_err-rows-clause-answer g c =
    let p = err_from_is_err_and c.from_residual-in_err-rows.result c.from_residual-in_err-rows.ensures.1 in
    λ world told.
    let refused = rw c.as_str.ensures at (c.in_err-rows.ensures.refused world told) in
    rw (p.1, p.2) (
      tt,
      no_list (g.F.Files.may_fail c.args.files.now) world c.args.metadata.now c.args.target.now
          c.in_ok-subject.subject c.in_ok-subject.ensures.gives c.in_err-rows.field-0.0 refused,
    )

pub returns-in_err-subject-clause-write : goal.returns-in_err-subject-clause-write
returns-in_err-subject-clause-write g c =
    let p = err_from_is_err_and c.from_residual.result c.from_residual.ensures.1 in
    rw (p.1, p.2) (metadata_is_no_write c.in_err-subject.field-0.0 c.in_err-subject.ensures.causes _ refl)

pub returns-in_err-check_specs-clause-answer : goal.returns-in_err-check_specs-clause-answer
returns-in_err-check_specs-clause-answer g c =
    let p = err_from_is_err_and c.from_residual-in_err-check_specs.result
    c.from_residual-in_err-check_specs.ensures.1 in
    let unknown = sym (rw (c.as_slice.ensures, c.deref.ensures.value) at c.in_err-check_specs.ensures.known) in
    λ world told.
    let has = rw c.as_str.ensures at (c.in_ok-rows.ensures.found world told) in
    rw (p.1, p.2) (
      tt,
      no_specs (g.F.Files.may_fail c.args.files.now) world c.args.metadata.now c.args.target.now
          c.in_ok-subject.subject c.in_ok-subject.ensures.gives c.in_ok-rows.rows.items has
          c.in_err-check_specs.field-0.0 unknown,
    )

pub returns-in_err-read-clause-answer : goal.returns-in_err-read-clause-answer
returns-in_err-read-clause-answer g c =
    let p = err_from_is_err_and c.from_residual-in_err-read.result c.from_residual-in_err-read.ensures.1 in
    let f = g.F.Files.may_fail c.args.files.now in
    let known = sym (rw (c.as_slice.ensures, c.deref.ensures.value) at c.in_ok-check_specs.ensures.known) in
    λ world told.
    let has = rw c.as_str.ensures at (c.in_ok-rows.ensures.found world told) in
    let refused = rw (c.among-basis.ensures, c.deref-2.ensures.value, c.deref-3.ensures.value) at
    (c.in_err-read.ensures.refused world told) in
    rw (p.1, p.2) (
      tt,
      no_audit f world c.args.metadata.now c.args.target.now c.in_ok-subject.subject c.in_ok-subject.ensures.gives
          c.in_ok-rows.rows.items has known c.in_err-read.field-0.0 refused,
    )

pub returns-clause-answer : goal.returns-clause-answer
returns-clause-answer g c =
    let f = g.F.Files.may_fail c.args.files.now in
    let known = sym (rw (c.as_slice.ensures, c.deref.ensures.value) at c.in_ok-check_specs.ensures.known) in
    λ world told.
    let has = rw c.as_str.ensures at (c.in_ok-rows.ensures.found world told) in
    let read = rw (c.among-basis.ensures, c.deref-2.ensures.value, c.deref-3.ensures.value) at
    (c.in_ok-read.ensures.found world told) in (
      rw (c.in_ok-whole_by_workers.ensures, c.as_slice-2.ensures)
          (audit_there f world c.args.metadata.now c.args.target.now c.in_ok-subject.subject
          c.in_ok-subject.ensures.gives c.in_ok-rows.rows.items has known c.in_ok-read.read read),
      tt,
    )

pub returns-in_err-subject-clause-stops : goal.returns-in_err-subject-clause-stops
returns-in_err-subject-clause-stops g c =
    let p = err_from_is_err_and c.from_residual.result c.from_residual.ensures.1 in
    rw (p.1, p.2)
    (metadata_stops (g.F.Files.world c.args.files.now) (g.F.Files.may_fail c.args.files.now)
    c.in_err-subject.field-0.0 c.in_err-subject.ensures.causes)

pub returns-in_err-rows-clause-stops : goal.returns-in_err-rows-clause-stops
returns-in_err-rows-clause-stops g c =
    let p = err_from_is_err_and c.from_residual-in_err-rows.result c.from_residual-in_err-rows.ensures.1 in
    let no = c.in_err-rows.ensures in
    rw (p.1, p.2)
    (read_stops (g.F.Files.world c.args.files.now) (g.F.Files.may_fail c.args.files.now) c.in_err-rows.field-0.0
    no.absent no.device no.write)

pub returns-in_err-check_specs-clause-stops : goal.returns-in_err-check_specs-clause-stops
returns-in_err-check_specs-clause-stops g c =
    let p = err_from_is_err_and c.from_residual-in_err-check_specs.result
    c.from_residual-in_err-check_specs.ensures.1 in
    let unknown = sym (rw (c.as_slice.ensures, c.deref.ensures.value) at c.in_err-check_specs.ensures.known) in
    rw (p.1, p.2)
    (specs_stop (g.F.Files.world c.args.files.now) (g.F.Files.may_fail c.args.files.now)
    c.in_ok-subject.subject.basis.specs c.in_ok-rows.rows.items c.in_err-check_specs.field-0.0 unknown)

pub returns-in_err-read-clause-stops : goal.returns-in_err-read-clause-stops
returns-in_err-read-clause-stops g c =
    let p = err_from_is_err_and c.from_residual-in_err-read.result c.from_residual-in_err-read.ensures.1 in
    rw (p.1, p.2) c.in_err-read.ensures.stops

pub returns-clause-read : goal.returns-clause-read
returns-clause-read g c = record {
  subject = c.in_ok-subject.subject;
  rows = c.in_ok-rows.rows.items;
  read = c.in_ok-read.read;
  asked = c.in_ok-subject.ensures.gives;
  listed = rw c.as_str.ensures at c.in_ok-rows.ensures.given;
  known = sym (rw (c.as_slice.ensures, c.deref.ensures.value) at c.in_ok-check_specs.ensures.known);
  manifests = rw (c.among-basis.ensures, c.deref-2.ensures.value, c.deref-3.ensures.value) at c.in_ok-read.ensures.read;
  is = rw c.as_slice-2.ensures at c.in_ok-whole_by_workers.ensures;
}
