-- Live delete files that apply to no live data file, and those that name a file that is none: Apache Iceberg table
-- spec, version 2, "Scan Planning".
use Rattle.std.specs.Prelude.{ℕ, Bool, false, not, List, [], ◌∷◌, ◌++◌, map, Option, Some, None, if◌then◌else◌}
use Rattle.std.specs.List.{filter_map, flat_map, list_any}
use Rattle.std.specs.Option.{option_and_then}
use Rattle.std.specs.Str.{bytes_eq}
use Rattle.ice_value.specs.Applying.{DataKey, DeleteKey, applies}
use Rattle.ice_value.specs.declared.file_content.FileContent.{FileContent}
use Rattle.ice_value.specs.declared.file_content.FileContent.TheVariants.{Data, EqualityDeletes}
use Rattle.icescan_audit_findings.specs.declared.file_key.FileKey.{FileKey}
use Rattle.icescan_audit_findings.specs.declared.finding.Finding.{Finding}
use Rattle.icescan_audit_findings.specs.declared.finding.Flaw.{Flaw}
use Rattle.icescan_audit_findings.specs.declared.finding.Flaw.TheVariants.{NamedNotLive, DanglingPositions}
use Rattle.icescan_audit_findings.specs.declared.finding.Flaw.TheVariants.{DanglingEqualities}
use Rattle.icescan_audit_findings.specs.declared.repeats.LiveFile.{LiveFile}

-- what the rules of applying ask of a data file, and of a delete file
abbrev pub data_key : List ℕ → FileKey → DataKey
data_key path key = record {
  spec_id = key.spec_id;
  tuple = key.tuple;
  sequence_number = key.sequence_number;
  path = path;
}

abbrev pub delete_key : FileKey → DeleteKey
delete_key key = record {
  content = key.content;
  spec_id = key.spec_id;
  unpartitioned = key.unpartitioned;
  tuple = key.tuple;
  sequence_number = key.sequence_number;
  referenced = key.referenced;
}

-- the data files among live files
abbrev pub data_by : FileContent → LiveFile → FileKey → Option DataKey
data_by Data x key = Some (data_key x.path key)
data_by content x key = None

abbrev pub data_of : LiveFile → Option DataKey
data_of x = option_and_then (λ key. data_by key.content x key) x.key

abbrev pub data_files : List LiveFile → List DataKey
data_files files = filter_map data_of files

-- the delete files among them, with their keys
abbrev pub delete_by : FileContent → LiveFile → FileKey → Option (LiveFile × FileKey)
delete_by Data x key = None
delete_by content x key = Some (x, key)

abbrev pub delete_of : LiveFile → Option (LiveFile × FileKey)
delete_of x = option_and_then (λ key. delete_by key.content x key) x.key

abbrev pub delete_files : List LiveFile → List (LiveFile × FileKey)
delete_files files = filter_map delete_of files

-- a delete file applies to one of the data files
abbrev pub is_reaching : List DataKey → FileKey → Bool
is_reaching xs key = list_any (λ x. applies x (delete_key key)) xs

-- a path is named that is none of these
abbrev pub names_none : List (List ℕ) → Option (List ℕ) → Bool
names_none paths None = false
names_none paths (Some path) = not (list_any (λ p. bytes_eq p path) paths)

abbrev pub paths_in : List DataKey → List (List ℕ)
paths_in xs = map (λ (x : DataKey). x.path) xs

-- deletes that apply to nothing
abbrev pub dangling_flaw : FileContent → Flaw
dangling_flaw EqualityDeletes = DanglingEqualities
dangling_flaw content = DanglingPositions

-- a finding on a live file, or none
abbrev pub finding_where : Bool → LiveFile → Flaw → List Finding
finding_where found x flaw =
    if found then record { manifest = x.manifest; file = Some x.path; flaw = flaw } ∷ [] else []

-- the findings on a delete file beside these data files
abbrev pub findings_by : Bool → Bool → LiveFile × FileKey → List Finding
findings_by none reaching d =
    finding_where none d.0 NamedNotLive ++ finding_where (not reaching) d.0 (dangling_flaw d.1.content)

abbrev pub findings_beside : List DataKey → LiveFile × FileKey → List Finding
findings_beside xs d = findings_by (names_none (paths_in xs) d.1.referenced) (is_reaching xs d.1) d

-- those on the delete files among live files, file by file
abbrev pub delete_findings : List LiveFile → List Finding
delete_findings files = flat_map (findings_beside (data_files files)) (delete_files files)
