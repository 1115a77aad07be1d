use Rattle.std.proofs.Common.{◌≡◌, ◌++◌, ◌∙◌, List, inl, inr, ap, append_assoc}
use Rattle.ice_manifest_reading.specs.Manifests.{live_of}
use Rattle.ice_manifest_reading.specs.Tallying.{tallies_of}
use Rattle.icescan_audit_findings.specs.Findings.{manifest_findings}
use Rattle.icescan_audit_findings.specs.RowFlaws.{row_findings}
use Rattle.icescan_audit_findings.specs.declared.finding.Finding.{Finding}
use Rattle.icescan_text.specs.Reads.{MayEnd, as_run}
use Rattle.icescan_text.specs.declared.fault.RunFault.TheVariants as run
use Rattle.icescan_audit.specs.Audits.{of_manifest}
use Rattle.icescan_audit.proofs.Steps.{manifest_ends}
use Rattle.icescan_audit.proofs.manifests.audit_bytes.Goals as goal

pub returns-in-Ok-clause-found : goal.returns-in-Ok-clause-found
returns-in-Ok-clause-found c =
    let found = c.in-Ok.ensures.found in
    let basis = c.args.basis.now in
    let row = c.args.row.now in
    let bytes = c.args.bytes.now in
    let manifest = manifest_findings basis row c.args.spec.now (tallies_of bytes) found.0 in (
      found.0,
      found.1,
      found.2,
      found.3 ∙ ap (λ (xs : List Finding). xs ++ manifest) c.in_ok-push_row_findings.ensures
          ∙ append_assoc c.args.findings.now (row_findings basis row bytes) manifest,
      found.4,
    )

pub returns-in-Err-clause-refused : goal.returns-in-Err-clause-refused
returns-in-Err-clause-refused c =
    elim c.refusal.ensures.cause as (λ _. MayEnd (as_run (of_manifest c.args.row.now.path)
    (live_of c.args.row.now c.args.spec.now c.args.bytes.now)) (λ _. ⊥) ⊥ c.refusal.result) [
      | inl is ↦ rw is tt
      | inr is ↦ rw is (manifest_ends (live_of c.args.row.now c.args.spec.now c.args.bytes.now) (λ _. ⊥) ⊥
          c.args.row.now.path c.in-Err.fault c.in-Err.ensures.refused)
    ]

pub returns-in-Err-clause-write : goal.returns-in-Err-clause-write
returns-in-Err-clause-write c = λ is.
    let failed : c.refusal.result ≡ run.Write = cc in
    c.refusal.ensures.write failed
