-- Where the audit of a snapshot has no fault, its live files are honest as far as metadata tell.
use Rattle.std.proofs.Common.{◌≡◌, ℕ, true, List, [], ◌∷◌, ◌++◌, sym, ap, subst, ◌∙◌}
use Rattle.std.specs.Prelude.{Ok}
use Rattle.std.specs.List.{AllByRecursion, Contains}
use Rattle.std.proofs.lemmas.List.Elements.{Contains-append_left, Contains-append_right}
use Rattle.ice_manifest_reading.specs.Tallying.{tallies_of}
use Rattle.ice_manifest_reading.specs.declared.row.Row.{Row}
use Rattle.ice_meta.specs.declared.metadata.Target.{Target}
use Rattle.ice_state.specs.Contents.{World}
use Rattle.ice_state.specs.Snapshots.{live}
use Rattle.icescan_audit_findings.specs.Bases.{among}
use Rattle.icescan_audit_findings.specs.Dangling.{delete_findings}
use Rattle.icescan_audit_findings.specs.Findings.{manifest_findings}
use Rattle.icescan_audit_findings.specs.Honesty.{IsHonestByMetadata}
use Rattle.icescan_audit_findings.specs.Repeats.{repeats}
use Rattle.icescan_audit_findings.specs.RowFlaws.{row_findings}
use Rattle.icescan_audit_findings.specs.Telling.{faults, is_fault}
use Rattle.icescan_audit_findings.specs.declared.basis.Basis.{Basis}
use Rattle.icescan_audit_findings.specs.declared.finding.Finding.{Finding}
use Rattle.icescan_audit_findings.proofs.Clean.{manifest_honest, none_at_fault}
use Rattle.icescan_text.specs.Reads.{rows_at}
use Rattle.icescan_audit.specs.Audits.{audit_of, row_audit, rows_audit}
use Rattle.icescan_audit.specs.Premises.{AreHonest, HasHonestFiles}
use Rattle.icescan_audit.specs.Subjects.{subject_of}
use Rattle.icescan_audit.specs.declared.audit.Audit.{Audit}
use Rattle.icescan_audit.specs.declared.audit.Reading.{Reading}
use Rattle.icescan_audit.specs.declared.subject.Subject.{Subject}
use Rattle.icescan_audit.proofs.Premise.{live_are, one_value, parts_of, row_of, rows_parts}

abbrev HasNoFault : List Finding → Type 0
HasNoFault findings = (x : Finding) → Contains findings x → is_fault x.flaw ≡ true → ⊥

front : (xs ys : List Finding) → HasNoFault (xs ++ ys) → HasNoFault xs
front xs ys h x c e = h x (Contains-append_left xs ys x c) e

back : (xs ys : List Finding) → HasNoFault (xs ++ ys) → HasNoFault ys
back xs ys h x c e = h x (Contains-append_right xs ys x c) e

row_honest : (world : World) (basis : Basis) (row : Row) (read : Reading) → row_audit world basis row ≡ Ok read
    → HasNoFault read.findings → AllByRecursion (IsHonestByMetadata basis row) (live world basis.specs row)
row_honest world basis row read h none =
    let r = row_of world basis row read h in
    subst (AllByRecursion (IsHonestByMetadata basis row)) (sym (live_are world basis row read r))
    (manifest_honest basis row r.spec (tallies_of r.bytes) r.lives
    (back (row_findings basis row r.bytes) (manifest_findings basis row r.spec (tallies_of r.bytes) r.lives)
    (subst HasNoFault r.findings_are none)))

rows_honest : (world : World) (basis : Basis) (rows : List Row) (read : Reading) → rows_audit world basis rows ≡ Ok read
    → HasNoFault read.findings → AreHonest world basis rows
rows_honest world basis [] read h none = tt
rows_honest world basis (row ∷ rows) read h none =
    let p = rows_parts world basis row rows read h in
    let both = subst HasNoFault p.4 none in (
      row_honest world basis row p.0 p.2 (front p.0.findings p.1.findings both),
      rows_honest world basis rows p.1 p.3 (back p.0.findings p.1.findings both),
    )

pub files_honest : (world : World) (metadata : List ℕ) (target : Target) (audit : Audit)
    → audit_of world metadata target ≡ Ok audit → faults audit.findings ≡ [] → HasHonestFiles world metadata target
files_honest world metadata target audit h none =
    let p = parts_of world metadata target audit h in
    let of_read : HasNoFault (p.read.findings ++ delete_findings p.read.live ++ repeats p.read.live) =
    subst (λ (a : Audit). HasNoFault a.findings) (sym p.audit_is) (none_at_fault audit.findings none) in
    let first = front p.read.findings (delete_findings p.read.live)
    (front (p.read.findings ++ delete_findings p.read.live) (repeats p.read.live) of_read) in
    let honest = rows_honest world (among p.rows p.subject.basis) p.rows p.read p.read_is first in
    λ subject rows is has.
    let same : p.subject ≡ subject = one_value (subject_of metadata target) p.subject subject p.subject_is is in
    let alike : p.rows ≡ rows = one_value (rows_at world subject.list) p.rows rows
    (ap (λ (s : Subject). rows_at world s.list) (sym same) ∙ p.rows_are) has in
    subst (λ (s : Subject). AreHonest world s.basis rows) same
    (subst (λ (rs : List Row). AreHonest world p.subject.basis rs) alike honest)
