-- What an audit tells of the summaries of a manifest list's rows, and of live files.
use Rattle.std.specs.Prelude.{◌≡◌, ℕ, List, Ok}
use Rattle.std.specs.List.{AllByRecursion}
use Rattle.ice_manifest_reading.specs.declared.row.Row.{Row}
use Rattle.ice_meta.specs.declared.metadata.Target.{Target}
use Rattle.ice_state.specs.Contents.{World}
use Rattle.ice_state.specs.Covering.{AreCovered}
use Rattle.ice_state.specs.Snapshots.{live}
use Rattle.icescan_audit_findings.specs.Honesty.{IsHonestByMetadata}
use Rattle.icescan_audit_findings.specs.declared.basis.Basis.{Basis}
use Rattle.icescan_text.specs.Reads.{file_in, rows_at}
use Rattle.icescan_audit.specs.Subjects.{subject_of}
use Rattle.icescan_audit.specs.declared.subject.Subject.{Subject}

-- the summaries of all rows of a snapshot tell the truth
abbrev pub HasTrueSummaries : World → List ℕ → Target → Type 0
HasTrueSummaries world metadata target = (subject : Subject) (rows : List Row) → subject_of metadata target ≡ Ok subject
    → rows_at world subject.list ≡ Ok rows → AreCovered world subject.basis.specs rows

-- the same of the table whose metadata is in the file at a path, where there is such a file
abbrev pub HasTrueSummariesAt : World → List ℕ → Target → Type 0
HasTrueSummariesAt world path target =
    (metadata : List ℕ) → file_in world path ≡ Ok metadata → HasTrueSummaries world metadata target

-- each live file under these rows is honest, as far as metadata tell
abbrev pub AreHonest : World → Basis → List Row → Type 0
AreHonest world basis rows =
    AllByRecursion (λ row. AllByRecursion (IsHonestByMetadata basis row) (live world basis.specs row)) rows

-- the live files of a snapshot are
abbrev pub HasHonestFiles : World → List ℕ → Target → Type 0
HasHonestFiles world metadata target = (subject : Subject) (rows : List Row) → subject_of metadata target ≡ Ok subject
    → rows_at world subject.list ≡ Ok rows → AreHonest world subject.basis rows
