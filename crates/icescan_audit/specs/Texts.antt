-- The program's own text of an audit. (10 is the line feed.)
use Rattle.std.specs.Prelude.{◌≡◌, ℕ, ◌+◌, List, [], ◌∷◌, ◌++◌, length, codes, Option, Some, None, Result, Ok}
use Rattle.std.specs.List.{flat_map}
use Rattle.icescan_audit_findings.specs.declared.finding.Count.{Count}
use Rattle.icescan_audit_findings.specs.declared.finding.Count.TheVariants.{AddedFiles, ExistingFiles, DeletedFiles}
use Rattle.icescan_audit_findings.specs.declared.finding.Count.TheVariants.{AddedRows, ExistingRows, DeletedRows}
use Rattle.icescan_audit_findings.specs.declared.finding.ColumnFlaw.{ColumnFlaw}
use Rattle.icescan_audit_findings.specs.declared.finding.ColumnFlaw.TheVariants.{BoundsOfNulls, NegativeCounts}
use Rattle.icescan_audit_findings.specs.declared.finding.EntryFlaw.{EntryFlaw}
use Rattle.icescan_audit_findings.specs.declared.finding.EntryFlaw.TheVariants.{AboveManifest, NegativeSize}
use Rattle.icescan_audit_findings.specs.declared.finding.EntryFlaw.TheVariants.{NoEqualityIds, UnknownFormat}
use Rattle.icescan_audit_findings.specs.declared.finding.FieldFlaw.{FieldFlaw}
use Rattle.icescan_audit_findings.specs.declared.finding.FieldFlaw.TheVariants.{OtherNulls, OutsideBounds, Unbounded}
use Rattle.icescan_audit_findings.specs.declared.finding.RowFlaw.{RowFlaw}
use Rattle.icescan_audit_findings.specs.declared.finding.RowFlaw.TheVariants.{AboveSnapshot, OtherContent, OtherLength}
use Rattle.icescan_audit_findings.specs.declared.finding.RowFlaw.TheVariants.{OtherSpec, OtherSummaries}
use Rattle.icescan_audit_findings.specs.declared.finding.Finding.{Finding}
use Rattle.icescan_audit_findings.specs.declared.finding.Flaw.{Flaw}
use Rattle.icescan_audit_findings.specs.declared.finding.Flaw.TheVariants.{Miscounted, Uncovered, BelowLeast, AboveLast}
use Rattle.icescan_audit_findings.specs.declared.finding.Flaw.TheVariants.{LiveTwice, NoColumn, BoundsCross}
use Rattle.icescan_audit_findings.specs.declared.finding.Flaw.TheVariants.{ExcessNulls}
use Rattle.icescan_audit_findings.specs.declared.finding.Flaw.TheVariants.{NamedNotLive, DanglingPositions}
use Rattle.icescan_audit_findings.specs.declared.finding.Flaw.TheVariants.{DanglingEqualities}
use Rattle.icescan_audit_findings.specs.declared.finding.Flaw.TheVariants.{OfColumn, OfEntry, OfField, OfRow}
use Rattle.icescan_audit_findings.specs.Telling.{faults}
use Rattle.icescan_print.specs.Pieces.{named_number, named_path, named_signed}
use Rattle.icescan_print.specs.Written.{Appends, AppendsFront}
use Rattle.icescan_text.specs.declared.fault.RunFault.{RunFault}
use Rattle.icescan_audit_findings.specs.declared.totals.FalseTotal.{FalseTotal}
use Rattle.icescan_audit.specs.Summaries.{total_name}
use Rattle.icescan_audit.specs.declared.audit.Audit.{Audit}

-- what is counted
abbrev pub count_name : Count → List ℕ
count_name AddedFiles = codes "added-files"
count_name ExistingFiles = codes "existing-files"
count_name DeletedFiles = codes "deleted-files"
count_name AddedRows = codes "added-rows"
count_name ExistingRows = codes "existing-rows"
count_name DeletedRows = codes "deleted-rows"

-- what is wrong with a row, an entry, a column and a value of a partition field
abbrev pub row_flaw_name : RowFlaw → List ℕ
row_flaw_name OtherSpec = codes "other-spec"
row_flaw_name OtherContent = codes "other-content"
row_flaw_name OtherLength = codes "other-length"
row_flaw_name OtherSummaries = codes "other-summaries"
row_flaw_name AboveSnapshot = codes "above-snapshot"

abbrev pub entry_flaw_name : EntryFlaw → List ℕ
entry_flaw_name AboveManifest = codes "above-manifest"
entry_flaw_name NoEqualityIds = codes "no-equality-ids"
entry_flaw_name NegativeSize = codes "negative-size"
entry_flaw_name UnknownFormat = codes "unknown-format"

abbrev pub column_flaw_name : ColumnFlaw → List ℕ
column_flaw_name NegativeCounts = codes "negative-counts"
column_flaw_name BoundsOfNulls = codes "bounds-of-nulls"

abbrev pub field_flaw_name : FieldFlaw → List ℕ
field_flaw_name Unbounded = codes "unbounded"
field_flaw_name OtherNulls = codes "other-nulls"
field_flaw_name OutsideBounds = codes "outside-bounds"

-- what is wrong, in a word
abbrev pub flaw_name : Flaw → List ℕ
flaw_name (Miscounted count) = count_name count
flaw_name (Uncovered field) = codes "uncovered"
flaw_name BelowLeast = codes "below-least"
flaw_name AboveLast = codes "above-last"
flaw_name LiveTwice = codes "live-twice"
flaw_name (NoColumn id) = codes "no-column"
flaw_name (BoundsCross id) = codes "bounds-cross"
flaw_name (ExcessNulls id) = codes "excess-nulls"
flaw_name NamedNotLive = codes "named-not-live"
flaw_name DanglingPositions = codes "dangling-position-deletes"
flaw_name DanglingEqualities = codes "dangling-equality-deletes"
flaw_name (OfRow flaw) = row_flaw_name flaw
flaw_name (OfEntry flaw) = entry_flaw_name flaw
flaw_name (OfColumn flaw id) = column_flaw_name flaw
flaw_name (OfField flaw field) = field_flaw_name flaw

-- the field or the column that it is about
abbrev pub flaw_end : Flaw → List ℕ
flaw_end (Uncovered field) = named_path (codes " field ") field
flaw_end (NoColumn id) = named_signed (codes " column ") id
flaw_end (BoundsCross id) = named_signed (codes " column ") id
flaw_end (ExcessNulls id) = named_signed (codes " column ") id
flaw_end (Miscounted count) = []
flaw_end BelowLeast = []
flaw_end AboveLast = []
flaw_end LiveTwice = []
flaw_end NamedNotLive = []
flaw_end DanglingPositions = []
flaw_end DanglingEqualities = []
flaw_end (OfRow flaw) = []
flaw_end (OfEntry flaw) = []
flaw_end (OfColumn flaw id) = named_signed (codes " column ") id
flaw_end (OfField flaw field) = named_path (codes " field ") field

-- the file that it is about
abbrev pub file_text : Option (List ℕ) → List ℕ
file_text None = []
file_text (Some path) = named_path (codes " file ") path

-- the line of a finding
abbrev pub finding_end : Finding → List ℕ
finding_end x = file_text x.file ++ (flaw_end x.flaw ++ 10 ∷ [])

unfoldable pub finding_text : Finding → List ℕ
finding_text x = codes "finding " ++ (flaw_name x.flaw ++ (named_path (codes " manifest ") x.manifest ++ finding_end x))

-- the line of a total of the snapshot's summary that is false: what the summary says, and what its live files come to
abbrev pub said_end : FalseTotal → List ℕ
said_end x = named_number (codes " says ") x.said ++ (named_signed (codes " counted ") x.counted ++ 10 ∷ [])

unfoldable pub total_text : FalseTotal → List ℕ
total_text x = codes "finding " ++ (total_name x.total ++ said_end x)

-- how many findings there are, false totals among them
abbrev pub number_of_findings : Audit → ℕ
number_of_findings audit = length audit.findings + length audit.false_totals

-- the last line: how many manifests and live entries were read, and how many findings there are
unfoldable pub totals_text : Audit → List ℕ
totals_text audit = named_number (codes "manifests ") audit.manifests ++ (named_number (codes " entries ") audit.entries
    ++ (named_number (codes " findings ") (number_of_findings audit) ++ 10 ∷ []))

-- the findings, the false totals, and then the last line
abbrev pub text_end : Audit → List ℕ
text_end audit = flat_map total_text audit.false_totals ++ totals_text audit

unfoldable pub audit_text : Audit → List ℕ
audit_text audit = flat_map finding_text audit.findings ++ text_end audit

-- what was written is the text of the audit that is asked for, which has so many faults; or a front of that text
abbrev pub WroteAudit : Result Audit RunFault → ℕ → Option (List ℕ) → Option (List ℕ) → Type 0
WroteAudit read count output output' = (audit : Audit) × (read ≡ Ok audit) × (count ≡ length (faults audit.findings))
    × Appends output output' (audit_text audit)

abbrev pub WroteAuditFront : Result Audit RunFault → Option (List ℕ) → Option (List ℕ) → Type 0
WroteAuditFront read output output' = (audit : Audit) × (read ≡ Ok audit)
    × AppendsFront output output' (audit_text audit)
