-- An audit as lines of JSON, an object each; and what is written of an audit in a form.
use Rattle.std.specs.Prelude.{◌≡◌, ℕ, List, [], ◌∷◌, ◌++◌, length, codes, Option, Result, Ok, if◌then◌else◌}
use Rattle.std.specs.List.{flat_map}
use Rattle.serde_json.specs.Data.{Data, null, string}
use Rattle.ice_desk.specs.Given.{Giving}
use Rattle.ice_meta.specs.declared.metadata.Target.{Target}
use Rattle.icescan_audit_findings.specs.declared.finding.Finding.{Finding}
use Rattle.icescan_audit_findings.specs.declared.finding.Flaw.{Flaw}
use Rattle.icescan_audit_findings.specs.declared.finding.Flaw.TheVariants.{BoundsCross, ExcessNulls, NoColumn}
use Rattle.icescan_audit_findings.specs.declared.finding.Flaw.TheVariants.{OfColumn, OfField, Uncovered}
use Rattle.icescan_audit_findings.specs.Telling.{faults, is_fault}
use Rattle.icescan_audit_findings.specs.declared.totals.FalseTotal.{FalseTotal}
use Rattle.icescan_audit.specs.AnyFiles.{IsAnAudit}
use Rattle.icescan_audit.specs.Summaries.{total_name}
use Rattle.icescan_audit.specs.Texts.{audit_text, flaw_name, number_of_findings}
use Rattle.icescan_audit.specs.declared.audit.Audit.{Audit}
use Rattle.icescan_forms.specs.Objects.{count_json, number_json, object_line, text_if}
use Rattle.icescan_forms.specs.declared.format.Format.{Format}
use Rattle.icescan_forms.specs.declared.format.Format.TheVariants as format
use Rattle.icescan_print.specs.Written.{Appends, AppendsFront}
use Rattle.icescan_text.specs.declared.fault.RunFault.{RunFault}

-- a fault of the table, or what only costs time
abbrev pub level : Flaw → List ℕ
level flaw = if is_fault flaw then codes "fault" else codes "note"

-- the partition field that a flaw is about, and the id of the column
abbrev pub field_json : Flaw → Data
field_json (Uncovered field) = string field
field_json (OfField flaw field) = string field
field_json _ = null

abbrev pub column_json : Flaw → Data
column_json (NoColumn id) = number_json id
column_json (BoundsCross id) = number_json id
column_json (ExcessNulls id) = number_json id
column_json (OfColumn flaw id) = number_json id
column_json _ = null

-- a finding; what it is not about is null
abbrev pub finding_json : Finding → List (List ℕ × Data)
finding_json x =
    (codes "kind", string (codes "finding")) ∷ (codes "finding", string (flaw_name x.flaw))
    ∷ (codes "level", string (level x.flaw)) ∷ (codes "manifest", string x.manifest) ∷ (codes "file", text_if x.file)
    ∷ (codes "field", field_json x.flaw) ∷ (codes "column", column_json x.flaw) ∷ []

unfoldable pub finding_object : Finding → List ℕ
finding_object x = object_line (finding_json x)

-- a total of the snapshot's summary that is false, which is about no manifest, file, field or column
abbrev pub total_json : FalseTotal → List (List ℕ × Data)
total_json x =
    (codes "kind", string (codes "finding")) ∷ (codes "finding", string (total_name x.total))
    ∷ (codes "level", string (codes "note")) ∷ (codes "says", count_json x.said)
    ∷ (codes "counted", number_json x.counted) ∷ []

unfoldable pub total_object : FalseTotal → List ℕ
total_object x = object_line (total_json x)

-- how many manifests and live entries were read, and how many findings and faults there are
abbrev pub totals_json : Audit → List (List ℕ × Data)
totals_json audit =
    (codes "kind", string (codes "totals")) ∷ (codes "manifests", count_json audit.manifests)
    ∷ (codes "entries", count_json audit.entries) ∷ (codes "findings", count_json (number_of_findings audit))
    ∷ (codes "faults", count_json (length (faults audit.findings))) ∷ []

-- the findings, the false totals, and then the counts
abbrev pub objects_end : Audit → List ℕ
objects_end audit = flat_map total_object audit.false_totals ++ object_line (totals_json audit)

unfoldable pub audit_objects : Audit → List ℕ
audit_objects audit = flat_map finding_object audit.findings ++ objects_end audit

-- an audit in a form
abbrev pub audit_told : Format → Audit → List ℕ
audit_told format.Text audit = audit_text audit
audit_told format.Json audit = audit_objects audit

-- what was written is the audit that is asked for, in a form, which has so many faults; or a front of it
abbrev pub WroteAuditAs : Format → Result Audit RunFault → ℕ → Option (List ℕ) → Option (List ℕ) → Type 0
WroteAuditAs form read count output output' = (audit : Audit) × (read ≡ Ok audit)
    × (count ≡ length (faults audit.findings)) × Appends output output' (audit_told form audit)

abbrev pub WroteAuditFrontAs : Format → Result Audit RunFault → Option (List ℕ) → Option (List ℕ) → Type 0
WroteAuditFrontAs form read output output' = (audit : Audit) × (read ≡ Ok audit)
    × AppendsFront output output' (audit_told form audit)

-- over any files: what was written is such an audit, in a form, which has so many faults
abbrev pub WroteAnAuditAs : Format → Giving → List ℕ → Target → ℕ → Option (List ℕ) → Option (List ℕ) → Type 0
WroteAnAuditAs form gives metadata target count output output' = (audit : Audit) × IsAnAudit gives metadata target audit
    × (count ≡ length (faults audit.findings)) × Appends output output' (audit_told form audit)
