use Rattle.std.proofs.Common.{List, Result, sym, ap, ◌∙◌}
use Rattle.std.proofs.lemmas.Result.{err_from_is_err_and}
use Rattle.ice_manifest_fields.specs.declared.fault.ManifestFault.{ManifestFault}
use Rattle.ice_manifest_reading.specs.declared.entry.Entry.{Entry}
use Rattle.ice_manifest_reading.specs.Manifests.{live_of}
use Rattle.ice_manifest_reading.specs.Collecting.{behind}
use Rattle.ice_manifest_reading.proofs.Collected.{kept_given, told_given}
use Rattle.ice_manifest_reading.proofs.manifest.read_after.Goals as goal

pub returns-in_err-read-clause-told : goal.returns-in_err-read-clause-told
returns-in_err-read-clause-told g c =
    let lives = live_of c.args.row.now c.args.spec.now c.args.bytes.now in
    let p = err_from_is_err_and c.from_residual.result c.from_residual.ensures.1 in
    rw (p.1, p.2) (λ other. sym (told_given (g.T.Tell.told c.args.asked.now.tell.now) lives) ∙ c.in_err-read.ensures.told other)

pub returns-in_err-read-clause-gathered : goal.returns-in_err-read-clause-gathered
returns-in_err-read-clause-gathered g c =
    let lives = live_of c.args.row.now c.args.spec.now c.args.bytes.now in
    let front = g.G.Gather.gathered c.args.gather.now in
    let p = err_from_is_err_and c.from_residual.result c.from_residual.ensures.1 in
    rw (p.1, p.2) (λ other. ap (λ (read : Result (List Entry) ManifestFault). behind front read)
    (sym (kept_given (g.K.Keep.kept c.args.asked.now.keep.now) lives)) ∙ c.in_err-read.ensures.gathered other)

pub returns-clause-told : goal.returns-clause-told
returns-clause-told g c =
    let lives = live_of c.args.row.now c.args.spec.now c.args.bytes.now in
    sym (told_given (g.T.Tell.told c.args.asked.now.tell.now) lives) ∙ c.in_ok-read.ensures.told

pub returns-clause-gathered : goal.returns-clause-gathered
returns-clause-gathered g c =
    let lives = live_of c.args.row.now c.args.spec.now c.args.bytes.now in
    let front = g.G.Gather.gathered c.args.gather.now in
    ap (λ (read : Result (List Entry) ManifestFault). behind front read)
    (sym (kept_given (g.K.Keep.kept c.args.asked.now.keep.now) lives)) ∙ c.in_ok-read.ensures.gathered
