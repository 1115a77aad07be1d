use Rattle.std.proofs.Common.{◌≡◌, ◌++◌, ◌∙◌, ap, arith, length, map, List}
use Rattle.std.specs.List.{flat_map}
use Rattle.std.proofs.lemmas.Result.{err_from_is_err_and}
use Rattle.ice_manifest_reading.specs.Manifests.{live_of}
use Rattle.ice_manifest_reading.specs.declared.tally.Tallies.{Tallies}
use Rattle.icescan_audit_findings.specs.Counting.{count_flaws}
use Rattle.icescan_audit_findings.specs.Examining.{findings_on}
use Rattle.icescan_audit_findings.specs.Findings.{manifest_finding, manifest_findings}
use Rattle.icescan_audit_findings.specs.declared.finding.Finding.{Finding}
use Rattle.icescan_audit_findings.specs.declared.finding.Flaw.{Flaw}
use Rattle.icescan_audit_findings.specs.declared.repeats.LiveFile.{LiveFile}
use Rattle.icescan_audit_findings.proofs.Found.{files_of, findings_of, number_of, told_err, told_ok}
use Rattle.icescan_audit_findings.proofs.entries.audit_manifest.Goals as goal

pub returns-in_err-examined-clause-refused : goal.returns-in_err-examined-clause-refused
returns-in_err-examined-clause-refused c =
    let basis = c.args.basis.now in
    let row = c.args.row.now in
    let spec = c.args.spec.now in
    let p = err_from_is_err_and c.from_residual.result c.from_residual.ensures.1 in
    rw (p.1, p.2) (λ other. told_err basis row spec (live_of row spec c.args.bytes.now) _
    (c.in_err-examined.ensures.told other))

pub returns-clause-found : goal.returns-clause-found
returns-clause-found c =
    let basis = c.args.basis.now in
    let row = c.args.row.now in
    let spec = c.args.spec.now in
    let entries = c.in_ok-examined.examined.told in
    let tallies = c.in_ok-examined.examined.tallies in
    let found = entries.items in
    let old = c.args.findings.now in
    let read = told_ok basis row spec (live_of row spec c.args.bytes.now) found c.in_ok-examined.ensures.told in
    let many = number_of basis row spec found read.0 read.2 in
    let number : c.len-number.result ≡ length read.0 = omega (arith, c.len-number.ensures, entries.ok, many) in
    let counted : c.in_ok-counted.counted.items ≡ count_flaws row tallies = c.in_ok-counted.ensures in
    let put : c.push_manifest_flaws.new.findings
    ≡ old ++ map (manifest_finding row) (count_flaws row tallies) =
    c.in_ok-push_manifest_flaws.ensures
    ∙ ap (λ (flaws : List Flaw). old ++ map (manifest_finding row) flaws) counted in
    let all = c.in_ok-push_entries.ensures.findings
    ∙ ap (λ (front : List Finding). front ++ flat_map (findings_on row) found) put
    ∙ findings_of basis row spec old tallies found read.0 read.2
    ∙ ap (λ (ts : Tallies). old ++ manifest_findings basis row spec ts read.0) c.in_ok-examined.ensures.tallies in
    let files = c.in_ok-push_entries.ensures.files
    ∙ ap (λ (more : List LiveFile). c.args.files.now.items ++ more) (files_of basis row spec found read.0 read.2) in
    (read.0, read.1, number, all, files)
