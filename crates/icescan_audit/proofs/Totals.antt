-- The false totals of an audit, and the live files of the snapshot.
use Rattle.std.proofs.Common.{◌≡◌, ◌↔◌, ℕ, ℤ, List, [], ◌∷◌, refl, sym, ap, subst, ◌∙◌}
use Rattle.std.specs.Prelude.{◌+ℤ◌, Ok}
use Rattle.std.specs.List.{Contains}
use Rattle.ice_manifest_reading.specs.declared.entry.Live.{Live}
use Rattle.ice_manifest_reading.specs.declared.row.Row.{Row}
use Rattle.ice_meta.specs.declared.metadata.Target.{Target}
use Rattle.ice_state.specs.Contents.{World}
use Rattle.ice_state.specs.Snapshots.{live}
use Rattle.icescan_audit_findings.specs.Bases.{among}
use Rattle.icescan_audit_findings.specs.Repeats.{live_files}
use Rattle.icescan_audit_findings.specs.Totals.{IsFalse, false_totals, total_of}
use Rattle.icescan_audit_findings.specs.declared.basis.Basis.{Basis}
use Rattle.icescan_audit_findings.specs.declared.totals.FalseTotal.{FalseTotal}
use Rattle.icescan_audit_findings.specs.declared.totals.SaidTotal.{SaidTotal}
use Rattle.icescan_audit_findings.specs.declared.totals.Total.{Total}
use Rattle.icescan_audit_findings.proofs.Totalled.{both_counted, from_false, to_false}
use Rattle.icescan_text.specs.Reads.{rows_at}
use Rattle.icescan_audit.specs.Audits.{audit_of, nothing, rows_audit}
use Rattle.icescan_audit.specs.Subjects.{subject_of}
use Rattle.icescan_audit.specs.Totals.{IsFalseUnder, entry_adds, live_total, total_under}
use Rattle.icescan_audit.specs.declared.audit.Audit.{Audit}
use Rattle.icescan_audit.specs.declared.audit.Reading.{Reading}
use Rattle.icescan_audit.specs.declared.subject.Subject.{Subject}
use Rattle.icescan_audit.proofs.Premise.{live_are, row_of, rows_parts}
use Rattle.icescan_audit.proofs.Strays.{snapshot_read}

same_total : (total : Total) (basis : Basis) (row : Row) (ls : List Live)
    → total_of total (live_files basis row ls) ≡ live_total total ls
same_total total basis row [] = refl
same_total total basis row (l ∷ ls) =
    ap (λ (z : ℤ). entry_adds total l.entry +ℤ z) (same_total total basis row ls)

module _ (world : World) (basis : Basis) (total : Total) where
  counted : (rows : List Row) (read : Reading) → rows_audit world basis rows ≡ Ok read
      → total_of total read.live ≡ total_under world basis.specs total rows
  unfolding rows_audit
  counted [] read h =
      let here : nothing ≡ read = cc in
      ap (λ (r : Reading). total_of total r.live) (sym here)
  counted (row ∷ rows) read h =
      let p = rows_parts world basis row rows read h in
      let r = row_of world basis row p.0 p.2 in
      let first : total_of total p.0.live ≡ live_total total (live world basis.specs row) =
      ap (total_of total) r.live_is ∙ same_total total basis row r.lives
      ∙ ap (live_total total) (sym (live_are world basis row p.0 r)) in
      ap (total_of total) p.5 ∙ both_counted total p.0.live p.1.live
      ∙ ap (λ (z : ℤ). z +ℤ total_of total p.1.live) first
      ∙ ap (λ (z : ℤ). live_total total (live world basis.specs row) +ℤ z) (counted rows p.1 p.3)

module _ (world : World) (basis : Basis) (rows : List Row) (read : Reading) (said : List SaidTotal)
    (audited : rows_audit world (among rows basis) rows ≡ Ok read) where
  under : (x : FalseTotal) → IsFalse read.live said x → IsFalseUnder world basis.specs rows said x
  under x h = record {
    is_said = h.is_said;
    is_counted = h.is_counted ∙ counted world (among rows basis) x.total rows read audited;
    other = h.other;
  }

  back : (x : FalseTotal) → IsFalseUnder world basis.specs rows said x → IsFalse read.live said x
  back x h = record {
    is_said = h.is_said;
    is_counted = h.is_counted ∙ sym (counted world (among rows basis) x.total rows read audited);
    other = h.other;
  }

  told : (x : FalseTotal) → Contains (false_totals read.live said) x ↔ IsFalseUnder world basis.specs rows said x
  told x = (λ c. under x (from_false read.live said x c), λ h. to_false read.live said x (back x h))

pub totals_told : (world : World) (metadata : List ℕ) (target : Target) (audit : Audit) (subject : Subject)
    (rows : List Row) (x : FalseTotal) → audit_of world metadata target ≡ Ok audit
    → subject_of metadata target ≡ Ok subject → rows_at world subject.list ≡ Ok rows
    → Contains audit.false_totals x ↔ IsFalseUnder world subject.basis.specs rows subject.said x
totals_told world metadata target audit subject rows x is asked listed =
    let r = snapshot_read world metadata target audit subject rows is asked listed in
    subst (λ (a : Audit). Contains a.false_totals x ↔ IsFalseUnder world subject.basis.specs rows subject.said x) r.2
    (told world subject.basis rows r.0 subject.said r.1 x)
