-- What findings tell of the summaries and counts of a manifest list's rows, of what manifests say of columns, and of
-- delete files.
use Rattle.std.specs.Prelude.{◌≡◌, ◌≢◌, ℕ, ℤ, Bool, true, false, List, filter, Some}
use Rattle.std.specs.List.{Contains}
use Rattle.ice_value.specs.Applying.{Applies, DataKey}
use Rattle.ice_value.specs.declared.file_bounds.FileBounds.{FileBounds}
use Rattle.ice_value.specs.declared.file_content.FileContent.{FileContent}
use Rattle.ice_manifest_reading.specs.declared.counts.Counts.{Counts}
use Rattle.ice_manifest_reading.specs.declared.entry.Entry.{Entry}
use Rattle.ice_manifest_reading.specs.declared.entry.Live.{Live}
use Rattle.ice_manifest_reading.specs.declared.tally.Tallies.{Tallies}
use Rattle.icescan_audit_findings.specs.declared.basis.TypedColumn.{TypedColumn}
use Rattle.icescan_audit_findings.specs.Counting.{listed, there_are}
use Rattle.icescan_audit_findings.specs.Dangling.{data_files, delete_files, delete_key}
use Rattle.icescan_audit_findings.specs.declared.file_key.FileKey.{FileKey}
use Rattle.icescan_audit_findings.specs.declared.finding.Count.{Count}
use Rattle.icescan_audit_findings.specs.declared.finding.Finding.{Finding}
use Rattle.icescan_audit_findings.specs.declared.finding.Flaw.{Flaw}
use Rattle.icescan_audit_findings.specs.declared.finding.Flaw.TheVariants.{DanglingEqualities, DanglingPositions}
use Rattle.icescan_audit_findings.specs.declared.finding.Flaw.TheVariants.{Uncovered}
use Rattle.icescan_audit_findings.specs.declared.repeats.LiveFile.{LiveFile}

abbrev pub is_uncovered : Flaw → Bool
is_uncovered (Uncovered field) = true
is_uncovered _ = false

-- the findings on what a row's summaries do not cover
abbrev pub uncovered : List Finding → List Finding
uncovered findings = filter (λ (x : Finding). is_uncovered x.flaw) findings

-- the list has this count, and there are not as many
abbrev pub IsMiscounted : Counts → Tallies → Count → Type 0
IsMiscounted counts tallies count = (n : ℤ) × (listed counts count ≡ Some n) × (n ≢ there_are tallies count)

-- a live entry of a file of this path has, of a column of this id, what this is true of
pub record IsSaid (holds : FileBounds → TypedColumn → Bool) (columns : List TypedColumn) (lives : List Live)
    (path : List ℕ) (id : ℤ) : Type 0 where
  pub live : Live
  pub column : TypedColumn
  pub is_live : Contains lives live
  pub is_column : Contains columns column
  pub path_is : live.entry.file.path ≡ path
  pub id_is : column.id ≡ id
  pub is_true : holds live.bounds column ≡ true

-- a live entry of a file of this path, of which this is true
pub record HasEntry (holds : Entry → Bool) (lives : List Live) (path : List ℕ) : Type 0 where
  pub live : Live
  pub is_live : Contains lives live
  pub path_is : live.entry.file.path ≡ path
  pub is_true : holds live.entry ≡ true

-- Deletes that apply to nothing are no faults of the table; all other findings are.
unfoldable pub is_fault : Flaw → Bool
is_fault DanglingPositions = false
is_fault DanglingEqualities = false
is_fault _ = true

abbrev pub faults : List Finding → List Finding
faults findings = filter (λ (x : Finding). is_fault x.flaw) findings

-- a live delete file of this path, in this manifest, that holds this, applies to no live data file
pub record Dangles (content : FileContent) (files : List LiveFile) (manifest path : List ℕ) : Type 0 where
  pub delete : LiveFile × FileKey
  pub is_live : Contains (delete_files files) delete
  pub manifest_is : delete.0.manifest ≡ manifest
  pub path_is : delete.0.path ≡ path
  pub content_is : delete.1.content ≡ content
  pub reaches_none : (x : DataKey) → Contains (data_files files) x → Applies x (delete_key delete.1) → ⊥

-- one names a file, and no live data file has that path
pub record NamesNone (files : List LiveFile) (manifest path : List ℕ) : Type 0 where
  pub delete : LiveFile × FileKey
  pub name : List ℕ
  pub is_live : Contains (delete_files files) delete
  pub manifest_is : delete.0.manifest ≡ manifest
  pub path_is : delete.0.path ≡ path
  pub named : delete.1.referenced ≡ Some name
  pub none_has_it : (x : DataKey) → Contains (data_files files) x → x.path ≡ name → ⊥
