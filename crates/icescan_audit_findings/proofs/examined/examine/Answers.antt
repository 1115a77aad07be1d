use Rattle.std.proofs.Common.{◌≡◌, ◌∙◌, List, ap, subst}
use Rattle.contract_words.specs.Outcome.{Gives}
use Rattle.ice_manifest_fields.specs.declared.fault.ManifestFault.TheVariants.{Memory}
use Rattle.ice_manifest_reading.specs.Manifests.{live_of}
use Rattle.ice_manifest_reading.specs.Telling.{told_of}
use Rattle.ice_manifest_reading.specs.declared.entry.Live.{Live}
use Rattle.ice_manifest_reading.specs.declared.row.Row.{Row}
use Rattle.icescan_audit_findings.specs.Examining.{examined}
use Rattle.icescan_audit_findings.specs.declared.basis.Basis.{Basis}
use Rattle.icescan_audit_findings.specs.declared.examined.Examined.{Examined}
use Rattle.icescan_audit_findings.specs.declared.limits.FieldLimits.{FieldLimits}
use Rattle.icescan_audit_findings.proofs.examined.examine.Goals as goal

pub returns-clause-told : goal.returns-clause-told
returns-clause-told c =
    let basis = c.args.basis.now in
    let row = c.args.row.now in
    let read = live_of row c.args.spec.now c.args.bytes.now in
    let against = c.held_against-against.result in
    let held = c.held_against-against.ensures in
    let limits = held.limits ∙ c.as_slice-allowed.ensures.value ∙ c.in_ok-limits.ensures in
    let same = ap (λ (b : Basis). examined b against.row.now against.limits.now) held.basis
    ∙ ap (λ (r : Row). examined basis r against.limits.now) held.row
    ∙ ap (λ (ls : List FieldLimits). examined basis row ls) limits in
    subst (λ (f : Live → Examined). Gives Memory (λ found. found.told.items) c.read_tallied.result (told_of f read)) same
    c.read_tallied.ensures.told
