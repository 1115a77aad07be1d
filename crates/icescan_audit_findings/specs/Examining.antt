-- Live entries as an audit looks at them.
use Rattle.std.specs.Prelude.{ℕ, List, map, Some}
use Rattle.ice_manifest_reading.specs.declared.entry.Live.{Live}
use Rattle.ice_manifest_reading.specs.declared.row.Row.{Row}
use Rattle.icescan_audit_findings.specs.declared.basis.Basis.{Basis}
use Rattle.icescan_audit_findings.specs.declared.examined.Examined.{Examined}
use Rattle.icescan_audit_findings.specs.declared.finding.Finding.{Finding}
use Rattle.icescan_audit_findings.specs.declared.finding.Flaw.{Flaw}
use Rattle.icescan_audit_findings.specs.declared.limits.FieldLimits.{FieldLimits}
use Rattle.icescan_audit_findings.specs.declared.repeats.LiveFile.{LiveFile}
use Rattle.icescan_audit_findings.specs.Findings.{live_flaws}
use Rattle.icescan_audit_findings.specs.Keys.{key_of}
use Rattle.icescan_audit_findings.specs.Spelling.{odd_spelling}

-- a live entry of a row's manifest, whose values may be within these limits
abbrev pub examined : Basis → Row → List FieldLimits → Live → Examined
examined basis row limits l = record {
  path = l.entry.file.path;
  content = l.entry.file.content;
  record_count = l.entry.file.record_count;
  file_size = l.entry.file.file_size;
  flaws = live_flaws basis row limits l;
  key = key_of basis l.entry;
}

-- a finding on an entry of a row's manifest, and all of them
abbrev pub finding_at : Row → List ℕ → Flaw → Finding
finding_at row path flaw = record { manifest = row.path; file = Some path; flaw = flaw }

abbrev pub findings_on : Row → Examined → List Finding
findings_on row x = map (finding_at row x.path) x.flaws

-- the file of an entry
abbrev pub file_at : Row → Examined → LiveFile
file_at row x = record {
  path = x.path;
  spelling = odd_spelling x.path;
  manifest = row.path;
  content = x.content;
  record_count = x.record_count;
  file_size = x.file_size;
  key = x.key;
}
