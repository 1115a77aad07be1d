-- What is told of all snapshots, finding by finding.
use Rattle.std.specs.Prelude.{ℕ, ℤ, ◌+◌, ◌-◌, Bool, true, false, not, ◌&&◌, if◌then◌else◌, List, [], ◌∷◌, ◌++◌, length, take, map}
use Rattle.std.specs.Prelude.{Option, Some, None}
use Rattle.std.specs.List.{flat_map}
use Rattle.std.specs.Cmp.Lexicographic.{slice_cmp}
use Rattle.std.specs.Ordering.{is_lt, nat_cmp}
use Rattle.std.specs.Str.{bytes_eq}
use Rattle.contract_words.specs.Sorting.{sorted}
use Rattle.icescan_audit.specs.JsonLines.{finding_object, total_object}
use Rattle.icescan_audit.specs.Texts.{finding_text, total_text}
use Rattle.icescan_audit_findings.specs.Telling.{is_fault}
use Rattle.icescan_audit_findings.specs.declared.finding.Finding.{Finding}
use Rattle.icescan_audit_findings.specs.declared.totals.FalseTotal.{FalseTotal}
use Rattle.icescan_forms.specs.declared.format.Format.{Format}
use Rattle.icescan_forms.specs.declared.format.Format.TheVariants as format
use Rattle.icescan_audit_all.specs.declared.audits.SnapshotAudit.{SnapshotAudit}
use Rattle.icescan_audit_all.specs.declared.lines.Line.{Line}

-- ---- lines of one snapshot, as its own audit has them

abbrev pub finding_told : Format → Finding → List ℕ
finding_told format.Text x = finding_text x
finding_told format.Json x = finding_object x

abbrev pub total_told : Format → FalseTotal → List ℕ
total_told format.Text x = total_text x
total_told format.Json x = total_object x

-- a line of text ends with the line feed, one of JSON with the object's brace before it
abbrev pub end_length : Format → ℕ
end_length format.Text = 1
end_length format.Json = 2

abbrev pub without_last : ℕ → List ℕ → List ℕ
without_last n text = take (length text - n) text

abbrev pub finding_line : Format → ℤ → Finding → Line
finding_line form id x = record {
  front = without_last (end_length form) (finding_told form x);
  is_fault = is_fault x.flaw;
  snapshot = id;
}

abbrev pub total_line : Format → ℤ → FalseTotal → Line
total_line form id x = record {
  front = without_last (end_length form) (total_told form x);
  is_fault = false;
  snapshot = id;
}

abbrev pub lines_of : Format → SnapshotAudit → List Line
lines_of form a = map (finding_line form a.snapshot) a.audit.findings
    ++ map (total_line form a.snapshot) a.audit.false_totals

-- ---- those of all snapshots

abbrev pub line_before : Line → Line → Bool
line_before a b = is_lt (slice_cmp nat_cmp a.front b.front)

-- in the order of their bytes, and those that are alike in the order of the snapshots
abbrev pub told_lines : Format → List SnapshotAudit → List Line
told_lines form audits = sorted line_before (flat_map (lines_of form) audits)

abbrev pub is_alike : Bool → Bool → Bool
is_alike true b = b
is_alike false b = not b

-- two lines say the same, of whatever snapshot
abbrev pub is_same : Line → Line → Bool
is_same a b = bytes_eq a.front b.front && is_alike a.is_fault b.is_fault

-- a line says something else than the one before it
abbrev pub begins : Option Line → Line → Bool
begins None l = true
begins (Some before) l = not (is_same before l)

abbrev pub one_if : Bool → ℕ
one_if b = if b then 1 else 0

-- how many different findings these lines tell behind the line before them, and how many of them are faults
abbrev pub number_told : Option Line → List Line → ℕ
number_told before [] = 0
number_told before (l ∷ ls) = one_if (begins before l) + number_told (Some l) ls

abbrev pub number_of_faults : Option Line → List Line → ℕ
number_of_faults before [] = 0
number_of_faults before (l ∷ ls) = one_if (begins before l && l.is_fault) + number_of_faults (Some l) ls
