-- What is found of a manifest and of its live entries.
use Rattle.std.specs.Prelude.{ℤ, Bool, not, nat_lt, List, [], ◌++◌, map, filter, Some, None}
use Rattle.std.specs.List.{flat_map, list_any}
use Rattle.std.specs.Ordering.{int_eq}
use Rattle.ice_value.specs.declared.file_bounds.FileBounds.{FileBounds}
use Rattle.ice_value.specs.declared.file_content.FileContent.{FileContent}
use Rattle.ice_value.specs.declared.file_content.FileContent.TheVariants.{EqualityDeletes}
use Rattle.ice_meta.specs.declared.spec.Spec.{Spec}
use Rattle.ice_manifest_reading.specs.declared.entry.Entry.{Entry}
use Rattle.ice_manifest_reading.specs.declared.entry.Live.{Live}
use Rattle.ice_manifest_reading.specs.declared.row.Row.{Row}
use Rattle.ice_manifest_reading.specs.declared.tally.Tallies.{Tallies}
use Rattle.icescan_audit_findings.specs.declared.basis.Basis.{Basis}
use Rattle.icescan_audit_findings.specs.declared.finding.Finding.{Finding}
use Rattle.icescan_audit_findings.specs.declared.finding.Flaw.{Flaw}
use Rattle.icescan_audit_findings.specs.declared.fields.SourceField.{SourceField}
use Rattle.icescan_audit_findings.specs.declared.finding.FieldFlaw.TheVariants.{Unbounded}
use Rattle.icescan_audit_findings.specs.declared.finding.Flaw.TheVariants.{Uncovered, BelowLeast, AboveLast, NoColumn}
use Rattle.icescan_audit_findings.specs.declared.finding.Flaw.TheVariants.{OfField}
use Rattle.icescan_audit_findings.specs.declared.limits.FieldLimits.{FieldLimits}
use Rattle.icescan_audit_findings.specs.ColumnFlaws.{columns_flaws}
use Rattle.icescan_audit_findings.specs.Counting.{count_flaws}
use Rattle.icescan_audit_findings.specs.Coverage.{outside, row_limits, unbounded}
use Rattle.icescan_audit_findings.specs.EntryFlaws.{entry_flaws}
use Rattle.icescan_audit_findings.specs.FieldFlaws.{fields_flaws, sources_of}
use Rattle.icescan_audit_findings.specs.Flaws.{flaw_where}

abbrev pub has_column : List ℤ → ℤ → Bool
has_column columns id = list_any (λ column. int_eq column id) columns

-- the ids that no column has
abbrev pub missing : List ℤ → List ℤ → List ℤ
missing columns ids = filter (λ id. not (has_column columns id)) ids

-- the columns by which an equality delete file deletes and that the schema lacks
abbrev pub missing_in : FileContent → List ℤ → List ℤ → List Flaw
missing_in EqualityDeletes columns ids = map NoColumn (missing columns ids)
missing_in _ columns ids = []

abbrev pub missing_columns : Basis → Entry → List Flaw
missing_columns basis x = missing_in x.file.content basis.columns x.file.equality_ids

-- what is wrong with a live entry of a row's manifest, whose values may be within these limits
abbrev pub flaws_by : Basis → Row → List FieldLimits → Entry → List Flaw
flaws_by basis row limits x = map Uncovered (outside limits x.file.tuple)
    ++ (flaw_where (nat_lt x.sequence_number row.min_sequence_number) BelowLeast
    ++ (flaw_where (nat_lt basis.last x.sequence_number) AboveLast
    ++ missing_columns basis x))

-- what is wrong with its values of these fields, beside the summaries and beside what the manifest says of the file's
-- columns, and then with what it says of itself
abbrev pub flaws_beside : Row → List FieldLimits → List SourceField → Entry → FileBounds → List Flaw
flaws_beside row limits fields x bounds = map (OfField Unbounded) (unbounded limits x.file.tuple)
    ++ (fields_flaws bounds fields x.file.tuple ++ entry_flaws row x)

-- the first of these, then what is wrong with what the manifest says of the file's columns, and then the others
abbrev pub live_flaws : Basis → Row → List FieldLimits → Live → List Flaw
live_flaws basis row limits l = flaws_by basis row limits l.entry
    ++ (columns_flaws l.bounds basis.typed ++ flaws_beside row limits (sources_of basis row) l.entry l.bounds)

-- a finding on a live entry of a row's manifest, and one on the manifest
abbrev pub finding_of : Row → Entry → Flaw → Finding
finding_of row x flaw = record { manifest = row.path; file = Some x.file.path; flaw = flaw }

abbrev pub manifest_finding : Row → Flaw → Finding
manifest_finding row flaw = record { manifest = row.path; file = None; flaw = flaw }

-- the findings on a live entry of a row's manifest
abbrev pub entry_findings : Basis → Row → List FieldLimits → Live → List Finding
entry_findings basis row limits l = map (finding_of row l.entry) (live_flaws basis row limits l)

-- those on all of them, entry by entry
abbrev pub live_findings : Basis → Row → Spec → List Live → List Finding
live_findings basis row spec lives = flat_map (entry_findings basis row (row_limits spec row.partitions)) lives

-- what is found of a row's manifest: first of what the row counts, held against these tallies, then of the live entries
abbrev pub manifest_findings : Basis → Row → Spec → Tallies → List Live → List Finding
manifest_findings basis row spec tallies lives =
    map (manifest_finding row) (count_flaws row tallies) ++ live_findings basis row spec lives
