use Rattle.std.proofs.Common.{ap, sym}
use Rattle.std.proofs.lemmas.Result.{err_from_is_err_and}
use Rattle.icescan_audit.proofs.AnyFiles.{metadata_stops, read_stops, specs_stop}
use Rattle.icescan_audit_findings.specs.declared.basis.Basis.{Basis}
use Rattle.icescan_audit_all.proofs.listed.rows_of.Goals as goal

pub returns-in_err-subject-clause-stops : goal.returns-in_err-subject-clause-stops
returns-in_err-subject-clause-stops g c =
    let p = err_from_is_err_and c.from_residual.result c.from_residual.ensures.1 in
    rw (p.1, p.2)
    (metadata_stops (g.F.Files.world c.args.files.now) (g.F.Files.may_fail c.args.files.now)
    c.in_err-subject.field-0.0 c.in_err-subject.ensures.causes)

pub returns-in_err-rows-clause-stops : goal.returns-in_err-rows-clause-stops
returns-in_err-rows-clause-stops g c =
    let p = err_from_is_err_and c.from_residual-in_err-rows.result c.from_residual-in_err-rows.ensures.1 in
    let no = c.in_err-rows.ensures in
    rw (p.1, p.2)
    (read_stops (g.F.Files.world c.args.files.now) (g.F.Files.may_fail c.args.files.now) c.in_err-rows.field-0.0
    no.absent no.device no.write)

pub returns-in_err-check_specs-clause-stops : goal.returns-in_err-check_specs-clause-stops
returns-in_err-check_specs-clause-stops g c =
    let p = err_from_is_err_and c.from_residual-in_err-check_specs.result
    c.from_residual-in_err-check_specs.ensures.1 in
    let unknown = sym (rw (c.as_slice.ensures, c.deref.ensures.value) at c.in_err-check_specs.ensures.known) in
    rw (p.1, p.2)
    (specs_stop (g.F.Files.world c.args.files.now) (g.F.Files.may_fail c.args.files.now)
    c.in_ok-subject.subject.basis.specs c.in_ok-rows.rows.items c.in_err-check_specs.field-0.0 unknown)

pub returns-clause-given : goal.returns-clause-given
returns-clause-given g c = record {
  subject = c.in_ok-subject.subject;
  asked = c.in_ok-subject.ensures.gives;
  listed = rw c.as_str.ensures at c.in_ok-rows.ensures.given;
  known = sym (rw (c.as_slice.ensures, c.deref.ensures.value) at c.in_ok-check_specs.ensures.known);
  deletes = ap (λ (b : Basis). b.has_deletes) (rw c.deref-2.ensures.value at c.among-basis.ensures);
}
