-- No finding says that a summary does not cover an entry just where the premise of the plan holds.
use Rattle.std.proofs.Common.{◌≡◌, ℕ, List, [], ◌∷◌, ◌++◌, length, refl, sym, ap, ◌∙◌}
use Rattle.std.proofs.Common.{Option, Some, None, option_map, subst, arith}
use Rattle.std.specs.Prelude.{Result, Ok, Err}
use Rattle.std.specs.List.{AllByRecursion}
use Rattle.icescan_audit_findings.specs.declared.basis.Basis.{Basis}
use Rattle.icescan_audit_findings.specs.declared.finding.Finding.{Finding}
use Rattle.icescan_audit_findings.specs.Bases.{among}
use Rattle.icescan_audit_findings.specs.Dangling.{delete_findings}
use Rattle.icescan_audit_findings.specs.Findings.{manifest_findings}
use Rattle.icescan_audit_findings.specs.Repeats.{live_files, repeats}
use Rattle.icescan_audit_findings.specs.RowFlaws.{row_findings}
use Rattle.ice_manifest_reading.specs.Laws.{HasACellForEach}
use Rattle.ice_manifest_reading.specs.Manifests.{live_of}
use Rattle.ice_manifest_reading.specs.Tallying.{tallies_of}
use Rattle.ice_manifest_reading.specs.declared.entry.Live.{Live}
use Rattle.ice_manifest_reading.specs.declared.row.Row.{Row}
use Rattle.ice_meta.specs.declared.metadata.Target.{Target}
use Rattle.ice_meta.specs.declared.spec.Spec.{Spec}
use Rattle.ice_state.specs.Contents.{World, live_by, manifest_of}
use Rattle.ice_state.specs.Covering.{AreCovered, RowCovers}
use Rattle.ice_state.specs.Snapshots.{live, live_or_none}
use Rattle.ice_state.specs.Specs.{spec_of}
use Rattle.icescan_text.specs.Reads.{as_run, file_in, rows_at}
use Rattle.icescan_text.specs.declared.fault.RunFault.{RunFault}
use Rattle.icescan_text.proofs.Steps.{bytes_in, step}
use Rattle.icescan_audit.specs.Audits.{all_known, audit_of, bytes_findings, joined, nothing, of_manifest, or_unknown}
use Rattle.icescan_audit.specs.Audits.{row_audit, rows_audit, spec_for, whole}
use Rattle.icescan_audit.specs.Premises.{HasTrueSummaries, HasTrueSummariesAt}
use Rattle.icescan_audit.specs.Subjects.{subject_of}
use Rattle.icescan_audit.specs.declared.audit.Audit.{Audit}
use Rattle.icescan_audit.specs.declared.audit.Reading.{Reading}
use Rattle.icescan_audit.specs.declared.subject.Subject.{Subject}
use Rattle.icescan_audit_findings.proofs.Telltale.{told_of_covered, told_of_manifest}
use Rattle.icescan_audit_findings.proofs.Told.{no_delete_findings, no_repeats, no_row_findings, none_of_all}
use Rattle.icescan_audit_findings.proofs.Told.{none_of_both, uncovered_are_faults}
use Rattle.icescan_audit_findings.specs.Telling.{faults, uncovered}

-- ---- reading step by step

spec_there : (row : Row) (o : Option Spec) (spec : Spec) → or_unknown row o ≡ Ok spec → o ≡ Some spec
spec_there row None spec h = absurd cc
spec_there row (Some s) spec h = cc

ok_in : {A E : Type 0} (of : E → RunFault) (r : Result A E) (x : A) → as_run of r ≡ Ok x → r ≡ Ok x
ok_in of (Ok y) x h = cc
ok_in of (Err e) x h = absurd cc

-- ---- the manifest of a row

pub record IsRowOf (world : World) (basis : Basis) (row : Row) (audit : Reading) : Type 0 where
  pub spec : Spec
  pub bytes : List ℕ
  pub lives : List Live
  pub spec_is : spec_of basis.specs row.spec_id ≡ Some spec
  pub bytes_are : world row.path ≡ Some bytes
  pub lives_are : live_of row spec bytes ≡ Ok lives
  pub findings_are : audit.findings ≡ bytes_findings basis row spec bytes lives
  pub live_is : audit.live ≡ live_files basis row lives

pub row_of : (world : World) (basis : Basis) (row : Row) (audit : Reading) → row_audit world basis row ≡ Ok audit
    → IsRowOf world basis row audit
unfolding row_audit
row_of world basis row audit h =
    let one = step (spec_for basis.specs row) _ audit h in
    let two = step (file_in world row.path) _ audit one.2 in
    let three = step (as_run (of_manifest row.path) (live_of row one.0 two.0)) _ audit two.2 in
    let here : record {
      manifests = 1;
      entries = length three.0;
      findings = bytes_findings basis row one.0 two.0 three.0;
      live = live_files basis row three.0;
    } ≡ audit = cc three.2 in
    record {
      spec = one.0;
      bytes = two.0;
      lives = three.0;
      spec_is = spec_there row (spec_of basis.specs row.spec_id) one.0 one.1;
      bytes_are = bytes_in world row.path two.0 two.1;
      lives_are = ok_in (of_manifest row.path) (live_of row one.0 two.0) three.0 three.1;
      findings_are = sym (ap (λ (a : Reading). a.findings) here);
      live_is = sym (ap (λ (a : Reading). a.live) here);
    }

pub live_are : (world : World) (basis : Basis) (row : Row) (audit : Reading) (r : IsRowOf world basis row audit)
    → live world basis.specs row ≡ r.lives
live_are world basis row audit r =
    ap (λ o. live_or_none (option_map (manifest_of basis.specs row) o)) r.bytes_are
    ∙ ap (λ o. live_or_none (Some (live_by o row r.bytes))) r.spec_is
    ∙ ap (λ m. live_or_none (Some m)) r.lives_are

abbrev IsRowCovered : World → Basis → Row → Type 0
IsRowCovered world basis row = AllByRecursion (λ (l : Live). RowCovers basis.specs row l.entry.file.tuple)
    (live world basis.specs row)

row_covered : (full : HasACellForEach) (world : World) (basis : Basis) (row : Row) (audit : Reading)
    → row_audit world basis row ≡ Ok audit → uncovered audit.findings ≡ [] → IsRowCovered world basis row
row_covered full world basis row audit h none =
    let r = row_of world basis row audit h in
    subst (AllByRecursion (λ (l : Live). RowCovers basis.specs row l.entry.file.tuple))
    (sym (live_are world basis row audit r))
    (told_of_manifest full basis row r.spec r.spec_is r.bytes (tallies_of r.bytes) r.lives r.lives_are
    (none_of_both (row_findings basis row r.bytes) (manifest_findings basis row r.spec (tallies_of r.bytes) r.lives)
    (ap uncovered (sym r.findings_are) ∙ none)).1)

row_none : (world : World) (basis : Basis) (row : Row) (audit : Reading) → row_audit world basis row ≡ Ok audit
    → IsRowCovered world basis row → uncovered audit.findings ≡ []
row_none world basis row audit h covered =
    let r = row_of world basis row audit h in
    ap uncovered r.findings_are
    ∙ none_of_all (row_findings basis row r.bytes) (manifest_findings basis row r.spec (tallies_of r.bytes) r.lives)
    (no_row_findings basis row r.bytes) (told_of_covered basis row r.spec r.spec_is (tallies_of r.bytes) r.lives
    (subst (AllByRecursion (λ (l : Live). RowCovers basis.specs row l.entry.file.tuple))
    (live_are world basis row audit r) covered))

-- ---- the manifests of all rows

pub rows_parts : (world : World) (basis : Basis) (row : Row) (rows : List Row) (audit : Reading)
    → rows_audit world basis (row ∷ rows) ≡ Ok audit
    → (a : Reading) × (b : Reading) × (row_audit world basis row ≡ Ok a) × (rows_audit world basis rows ≡ Ok b)
    × (audit.findings ≡ a.findings ++ b.findings) × (audit.live ≡ a.live ++ b.live)
unfolding rows_audit
rows_parts world basis row rows audit h =
    let one = step (row_audit world basis row) _ audit h in
    let two = step (rows_audit world basis rows) _ audit one.2 in
    let here : joined one.0 two.0 ≡ audit = cc two.2 in (
      one.0,
      two.0,
      one.1,
      two.1,
      sym (ap (λ (a : Reading). a.findings) here),
      sym (ap (λ (a : Reading). a.live) here),
    )

rows_covered : (full : HasACellForEach) (world : World) (basis : Basis) (rows : List Row) (audit : Reading)
    → rows_audit world basis rows ≡ Ok audit → uncovered audit.findings ≡ [] → AreCovered world basis.specs rows
rows_covered full world basis [] audit h none = tt
rows_covered full world basis (row ∷ rows) audit h none =
    let p = rows_parts world basis row rows audit h in
    let parts = none_of_both p.0.findings p.1.findings (ap uncovered (sym p.4) ∙ none) in
    (row_covered full world basis row p.0 p.2 parts.0, rows_covered full world basis rows p.1 p.3 parts.1)

rows_none : (world : World) (basis : Basis) (rows : List Row) (audit : Reading) → rows_audit world basis rows ≡ Ok audit
    → AreCovered world basis.specs rows → uncovered audit.findings ≡ []
unfolding rows_audit
rows_none world basis [] audit h covered =
    let here : nothing ≡ audit = cc in ap (λ (a : Reading). uncovered a.findings) (sym here)
rows_none world basis (row ∷ rows) audit h covered =
    let p = rows_parts world basis row rows audit h in
    ap uncovered p.4
    ∙ none_of_all p.0.findings p.1.findings (row_none world basis row p.0 p.2 covered.0)
    (rows_none world basis rows p.1 p.3 covered.1)

-- ---- a snapshot

pub record IsAuditOf (world : World) (metadata : List ℕ) (target : Target) (audit : Audit) : Type 0 where
  pub subject : Subject
  pub rows : List Row
  pub subject_is : subject_of metadata target ≡ Ok subject
  pub rows_are : rows_at world subject.list ≡ Ok rows
  pub read : Reading
  pub read_is : rows_audit world (among rows subject.basis) rows ≡ Ok read
  pub audit_is : whole subject.said read ≡ audit

pub parts_of : (world : World) (metadata : List ℕ) (target : Target) (audit : Audit)
    → audit_of world metadata target ≡ Ok audit → IsAuditOf world metadata target audit
unfolding audit_of
parts_of world metadata target audit h =
    let one = step (subject_of metadata target) _ audit h in
    let two = step (rows_at world one.0.list) _ audit one.2 in
    let three = step (all_known one.0.basis.specs two.0) _ audit two.2 in
    let four = step (rows_audit world (among two.0 one.0.basis) two.0) _ audit three.2 in
    record {
      subject = one.0;
      rows = two.0;
      subject_is = one.1;
      rows_are = two.1;
      read = four.0;
      read_is = four.1;
      audit_is = cc four.2;
    }

pub one_value : {A : Type 0} (r : Result A RunFault) (x y : A) → r ≡ Ok x → r ≡ Ok y → x ≡ y
one_value (Ok z) x y h k = cc
one_value (Err e) x y h k = absurd cc

pub truth : (full : HasACellForEach) (world : World) (metadata : List ℕ) (target : Target) (audit : Audit)
    → audit_of world metadata target ≡ Ok audit → uncovered audit.findings ≡ []
    → HasTrueSummaries world metadata target
truth full world metadata target audit h none =
    let p = parts_of world metadata target audit h in
    let parts = none_of_both (p.read.findings ++ delete_findings p.read.live) (repeats p.read.live)
    (ap (λ (a : Audit). uncovered a.findings) p.audit_is ∙ none) in
    let first = none_of_both p.read.findings (delete_findings p.read.live) parts.0 in
    let covered = rows_covered full world (among p.rows p.subject.basis) p.rows p.read p.read_is first.0 in
    λ subject rows is has.
    let same : p.subject ≡ subject = one_value (subject_of metadata target) p.subject subject p.subject_is is in
    let alike : p.rows ≡ rows = one_value (rows_at world subject.list) p.rows rows
    (ap (λ (s : Subject). rows_at world s.list) (sym same) ∙ p.rows_are) has in
    subst (λ (s : Subject). AreCovered world s.basis.specs rows) same
    (subst (λ (rs : List Row). AreCovered world p.subject.basis.specs rs) alike covered)

pub no_lie : (world : World) (metadata : List ℕ) (target : Target) (audit : Audit)
    → audit_of world metadata target ≡ Ok audit → HasTrueSummaries world metadata target
    → uncovered audit.findings ≡ []
no_lie world metadata target audit h tells =
    let p = parts_of world metadata target audit h in
    let read_none = rows_none world (among p.rows p.subject.basis) p.rows p.read p.read_is
    (tells p.subject p.rows p.subject_is p.rows_are) in
    let first = none_of_all p.read.findings (delete_findings p.read.live) read_none (no_delete_findings p.read.live) in
    ap (λ (a : Audit). uncovered a.findings) (sym p.audit_is)
    ∙ none_of_all (p.read.findings ++ delete_findings p.read.live) (repeats p.read.live) first
    (no_repeats p.read.live)

-- where no fault was found
no_more : (xs : List Finding) → length xs ≡ 0 → xs ≡ []
no_more [] h = refl
no_more (x ∷ xs) h = absurd (omega (arith, h))

pub none_at_zero : (findings : List Finding) → length (faults findings) ≡ 0 → uncovered findings ≡ []
none_at_zero findings h = uncovered_are_faults findings (no_more (faults findings) h)

pub true_at : (world : World) (path metadata : List ℕ) (target : Target) → file_in world path ≡ Ok metadata
    → HasTrueSummaries world metadata target → HasTrueSummariesAt world path target
true_at world path metadata target has h = λ other is.
    let same : metadata ≡ other = one_value (file_in world path) metadata other has is in
    subst (λ (bytes : List ℕ). HasTrueSummaries world bytes target) same h
