-- What is read of a manifest that is handed in.
use Rattle.std.proofs.Common.{◌≡◌, ◌≢◌, ℕ, ◌+◌, List, ◌++◌, length, refl, Some}
use Rattle.std.specs.Prelude.{Result, Ok, Err}
use Rattle.ice_manifest_reading.specs.Manifests.{live_of}
use Rattle.ice_manifest_reading.specs.declared.entry.Live.{Live}
use Rattle.ice_manifest_reading.specs.declared.row.Row.{Row}
use Rattle.ice_meta.specs.declared.spec.Spec.{Spec}
use Rattle.icescan_audit.proofs.AnyFiles.{given}
use Rattle.icescan_audit.specs.Audits.{bytes_findings, joined, of_manifest, row_audit, spec_for}
use Rattle.icescan_audit.specs.Handed.{read_row}
use Rattle.icescan_audit.specs.declared.audit.Reading.{Reading}
use Rattle.icescan_audit_findings.specs.Repeats.{live_files}
use Rattle.icescan_audit_findings.specs.declared.basis.Basis.{Basis}
use Rattle.icescan_audit_findings.specs.declared.finding.Finding.{Finding}
use Rattle.icescan_audit_findings.specs.declared.repeats.LiveFile.{LiveFile}
use Rattle.icescan_text.specs.Reads.{MayEnd, as_run}
use Rattle.icescan_text.specs.declared.fault.RunFault.{RunFault}
use Rattle.icescan_text.specs.declared.fault.RunFault.TheVariants as run

-- a refusal but want of memory is that of the reading, where nothing else may fail
pub told : {A : Type 0} (read : Result A RunFault) (e : RunFault) → MayEnd read (λ _. ⊥) ⊥ e → e ≢ run.Memory
    → read ≡ Err e
told read run.Memory h not = absurd (not refl)
told read run.Write h not = absurd h
told read (run.Device path) h not = absurd h
told read (run.Words t) h not = h
told read run.Input h not = h
told read (run.Bundle n) h not = h
told read (run.Absent path) h not = h
told read (run.List f) h not = h
told read (run.Scan f) h not = h
told read (run.Finish f) h not = h
told read (run.Metadata f) h not = h
told read (run.Filter f) h not = h
told read (run.Drill f) h not = h
told read (run.Locate f) h not = h
told read (run.Lineage f) h not = h
told read (run.State path flaw) h not = h
told read (run.Change f) h not = h
told read (run.Prepare f) h not = h
told read (run.Conflict path) h not = h
told read run.Workers h not = h

module _ (basis : Basis) (before : Reading) (manifest : List ℕ) (row : Row) where
  pub no_spec : (e : RunFault) → spec_for basis.specs row ≡ Err e → read_row basis (Some row) before manifest ≡ Err e
  unfolding row_audit
  no_spec e h = rw h refl

  module _ (spec : Spec) (known : spec_for basis.specs row ≡ Ok spec) where
    unread : (e : RunFault) → as_run (of_manifest row.path) (live_of row spec manifest) ≡ Err e
        → read_row basis (Some row) before manifest ≡ Err e
    unfolding row_audit
    unread e h = rw (known, given row.path manifest, h) refl

    pub no_entries : (e : RunFault)
        → MayEnd (as_run (of_manifest row.path) (live_of row spec manifest)) (λ _. ⊥) ⊥ e → e ≢ run.Memory
        → read_row basis (Some row) before manifest ≡ Err e
    no_entries e h not = unread e (told (as_run (of_manifest row.path) (live_of row spec manifest)) e h not)

    there : (lives : List Live) → live_of row spec manifest ≡ Ok lives → read_row basis (Some row) before manifest
        ≡ Ok (joined before (record {
          manifests = 1;
          entries = length lives;
          findings = bytes_findings basis row spec manifest lives;
          live = live_files basis row lives;
        }))
    unfolding row_audit
    there lives is = rw (known, given row.path manifest, is) refl

    pub more : (number : ℕ) (findings : List Finding) (live : List LiveFile)
        → ((lives : List Live) × (live_of row spec manifest ≡ Ok lives) × (number ≡ length lives)
        × (findings ≡ before.findings ++ bytes_findings basis row spec manifest lives)
        × (live ≡ before.live ++ live_files basis row lives))
        → read_row basis (Some row) before manifest ≡ Ok (record {
          manifests = before.manifests + 1;
          entries = before.entries + number;
          findings = findings;
          live = live;
        })
    more number findings live h = rw (h.2, h.3, h.4) (there h.0 h.1)
