-- Live delete files of a snapshot, beside its live data files.
use Rattle.std.specs.Prelude.{◌≡◌, ◌↔◌, ℕ, List, Ok, Some}
use Rattle.std.specs.List.{Contains}
use Rattle.ice_manifest_reading.specs.declared.entry.Live.{Live}
use Rattle.ice_manifest_reading.specs.declared.row.Row.{Row}
use Rattle.ice_meta.specs.declared.metadata.Target.{Target}
use Rattle.ice_meta.specs.declared.spec.Spec.{Spec}
use Rattle.ice_state.specs.Applying.{Applies}
use Rattle.ice_state.specs.Contents.{World}
use Rattle.ice_state.specs.Snapshots.{live}
use Rattle.ice_value.specs.declared.file_content.FileContent.{FileContent}
use Rattle.ice_value.specs.declared.file_content.FileContent.TheVariants.{Data}
use Rattle.icescan_audit.specs.Audits.{audit_of}
use Rattle.icescan_audit.specs.Subjects.{subject_of}
use Rattle.icescan_audit.specs.declared.audit.Audit.{Audit}
use Rattle.icescan_audit.specs.declared.subject.Subject.{Subject}
use Rattle.icescan_audit_findings.specs.declared.finding.Flaw.{Flaw}
use Rattle.icescan_text.specs.Reads.{rows_at}

-- a live delete file of this path, under the row of this manifest, that holds this, applies to no live data file under
-- these rows
pub record DanglesUnder (content : FileContent) (world : World) (specs : List Spec) (rows : List Row)
    (manifest path : List ℕ) : Type 0 where
  pub row : Row
  pub file : Live
  pub is_row : Contains rows row
  pub is_live : Contains (live world specs row) file
  pub manifest_is : row.path ≡ manifest
  pub path_is : file.entry.file.path ≡ path
  pub content_is : file.entry.file.content ≡ content
  pub reaches_none : (other : Row) (x : Live) → Contains rows other → Contains (live world specs other) x
      → x.entry.file.content ≡ Data → Applies x.entry file.entry → ⊥

-- one names a file, and no live data file under these rows has that path
pub record NamesNoneUnder (world : World) (specs : List Spec) (rows : List Row) (manifest path : List ℕ) : Type 0 where
  pub row : Row
  pub file : Live
  pub name : List ℕ
  pub is_row : Contains rows row
  pub is_live : Contains (live world specs row) file
  pub manifest_is : row.path ≡ manifest
  pub path_is : file.entry.file.path ≡ path
  pub named : file.entry.file.referenced ≡ Some name
  pub none_has_it : (other : Row) (x : Live) → Contains rows other → Contains (live world specs other) x
      → x.entry.file.content ≡ Data → x.entry.file.path ≡ name → ⊥

-- The audit of a snapshot has a finding of this flaw on a file just where the file, under the row of its manifest, is
-- so beside the snapshot's live files.
abbrev pub TellsOfStrays : Flaw → (World → List Spec → List Row → List ℕ → List ℕ → Type 0) → Type 0
TellsOfStrays flaw so = (world : World) (metadata : List ℕ) (target : Target) (audit : Audit) (subject : Subject)
    (rows : List Row) (manifest path : List ℕ) → audit_of world metadata target ≡ Ok audit →
    subject_of metadata target ≡ Ok subject → rows_at world subject.list ≡ Ok rows →
    Contains audit.findings (record { manifest = manifest; file = Some path; flaw = flaw })
    ↔ so world subject.basis.specs rows manifest path
