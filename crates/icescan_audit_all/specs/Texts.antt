-- The text of the audits of all snapshots: a line for each finding, and behind it the snapshots that it is about. (10 is
-- the line feed.)
use Rattle.std.specs.Prelude.{◌≡◌, ℕ, if◌then◌else◌, List, [], ◌∷◌, ◌++◌, length, codes, Option, Some, None}
use Rattle.std.specs.Ordering.{int_eq}
use Rattle.serde_json.specs.Data.{Data, string}
use Rattle.ice_desk.specs.Given.{Giving}
use Rattle.icescan_forms.specs.Objects.{count_json, object_line}
use Rattle.icescan_forms.specs.declared.format.Format.{Format}
use Rattle.icescan_forms.specs.declared.format.Format.TheVariants as format
use Rattle.icescan_print.specs.Pieces.{named_number, named_signed}
use Rattle.icescan_print.specs.Written.{Appends}
use Rattle.icescan_audit_all.specs.Lines.{begins, number_of_faults, number_told, told_lines}
use Rattle.icescan_audit_all.specs.Manifests.{number_of_manifests}
use Rattle.icescan_audit_all.specs.Snapshots.{AreAudits}
use Rattle.icescan_audit_all.specs.declared.audits.SnapshotAudit.{SnapshotAudit}
use Rattle.icescan_audit_all.specs.declared.lines.Line.{Line}
use Rattle.icescan_audit_all.specs.declared.writing.Totals.{Totals}

-- what stands before the snapshots of a finding, and behind them
abbrev pub opening : Format → List ℕ
opening format.Text = codes " snapshots "
opening format.Json = codes ",\"snapshots\":["

abbrev pub closing : Format → List ℕ
closing format.Text = 10 ∷ []
closing format.Json = codes "]}" ++ 10 ∷ []

-- the end of the line before, where there is one
abbrev pub ended : Format → Option Line → List ℕ
ended form None = []
ended form (Some before) = closing form

-- of a line that says the same as the one before: its snapshot, if that is another
abbrev pub again : Option Line → Line → List ℕ
again None l = []
again (Some before) l = if int_eq before.snapshot l.snapshot then [] else named_signed (codes ",") l.snapshot

-- what a line has to say behind the one before it
abbrev pub piece : Format → Option Line → Line → List ℕ
piece form before l =
    if begins before l then ended form before ++ (l.front ++ named_signed (opening form) l.snapshot)
    else again before l

-- lines behind another: those that say the same in one
abbrev pub lines_text : Format → Option Line → List Line → List ℕ
lines_text form before [] = ended form before
lines_text form before (l ∷ ls) = piece form before l ++ lines_text form (Some l) ls

-- the last line: how many snapshots there are, how many different manifests they have, how many different findings are
-- told, and how many of these are faults
abbrev pub totals_json : Totals → List (List ℕ × Data)
totals_json t =
    (codes "kind", string (codes "totals")) ∷ (codes "snapshots", count_json t.snapshots)
    ∷ (codes "manifests", count_json t.manifests) ∷ (codes "findings", count_json t.findings)
    ∷ (codes "faults", count_json t.faults) ∷ []

abbrev pub totals_text : Totals → List ℕ
totals_text t = named_number (codes "snapshots ") t.snapshots ++ (named_number (codes " manifests ") t.manifests
    ++ (named_number (codes " findings ") t.findings ++ (named_number (codes " faults ") t.faults ++ 10 ∷ [])))

abbrev pub totals_told : Format → Totals → List ℕ
totals_told format.Text t = totals_text t
totals_told format.Json t = object_line (totals_json t)

-- the text of the lines of so many snapshots, which have so many different manifests, and that of audits
abbrev pub totals_of : ℕ → ℕ → List Line → Totals
totals_of snapshots manifests lines = record {
  snapshots = snapshots;
  manifests = manifests;
  findings = number_told None lines;
  faults = number_of_faults None lines;
}

abbrev pub told_text : Format → ℕ → ℕ → List Line → List ℕ
told_text form snapshots manifests lines =
    lines_text form None lines ++ totals_told form (totals_of snapshots manifests lines)

abbrev pub all_text : Format → List SnapshotAudit → List ℕ
all_text form audits = told_text form (length audits) (number_of_manifests audits) (told_lines form audits)

-- What was written is the text of audits of all snapshots of the table whose metadata a read of the path gave, with so
-- many different faults.
pub record WroteAuditsAt (form : Format) (gives : Giving) (path : List ℕ) (count : ℕ)
    (output output' : Option (List ℕ)) : Type 0 where
  pub metadata : List ℕ
  pub audits : List SnapshotAudit
  pub given : gives path (Some metadata)
  pub are : AreAudits gives metadata audits
  pub counted : count ≡ number_of_faults None (told_lines form audits)
  pub wrote : Appends output output' (all_text form audits)
