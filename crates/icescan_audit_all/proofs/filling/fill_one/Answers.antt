use Rattle.std.proofs.Common.{rules, Some}
use Rattle.std.proofs.lemmas.Result.{err_from_is_err_and, on_ok_weaker}
use Rattle.icescan_audit.proofs.AnyFiles.{read_stops}
use Rattle.icescan_audit_all.specs.Snapshots.{IsClass}
use Rattle.icescan_audit_all.proofs.Bases.{all_get, kept_put}
use Rattle.icescan_audit_all.proofs.filling.fill_one.Goals as goal

pub returns-in-Some-clause-kept : goal.returns-in-Some-clause-kept
returns-in-Some-clause-kept g c = λ d classes all.
    let gives = g.F.Files.gives c.args.files.now in
    let class = c.in-Some.class.now in
    let row = c.args.want.now.row in
    let bytes = c.as_slice.result.now in
    let found = c.in-Some.ensures.lookup in
    let given : gives row.path (Some bytes) = search rules in
    on_ok_weaker c.put_reading.result
    (kept_put gives d class row bytes c.args.kept.now.items c.put_reading.new.kept.items
    (all_get (IsClass d) c.args.classes.now c.args.want.now.class class classes found.3.0 found.1) given all)
    c.put_reading.ensures.read

pub returns-in_err-read_manifest-clause-stops : goal.returns-in_err-read_manifest-clause-stops
returns-in_err-read_manifest-clause-stops g c =
    let p = err_from_is_err_and c.from_residual.result c.from_residual.ensures.1 in
    let no = c.in_err-read_manifest.ensures in
    rw (p.1, p.2)
    (read_stops (g.F.Files.world c.args.files.now) (g.F.Files.may_fail c.args.files.now)
    c.in_err-read_manifest.field-0.0 no.absent no.device no.write)
