-- What it says of the audits of all snapshots that no fault was told.
use Rattle.std.proofs.Common.{◌≡◌, ◌∙◌, ℕ, ℤ, ◌+◌, Bool, true, false, not, ◌&&◌, List, [], ◌∷◌, ◌++◌, map, cond, refl, sym}
use Rattle.std.proofs.Common.{ap, subst, arith, Option, Some, None}
use Rattle.std.proofs.lemmas.List.Elements.{All-contains, All-from_recursion, All-map}
use Rattle.std.specs.Prelude.{Ok}
use Rattle.std.specs.List.{All, AllByRecursion, Contains, flat_map}
use Rattle.std.specs.Str.{bytes_eq}
use Rattle.contract_words.specs.Sorting.{put, sorted}
use Rattle.ice_desk.specs.Given.{AreOf, Giving}
use Rattle.ice_manifest_reading.specs.declared.row.Row.{Row}
use Rattle.ice_meta.specs.Targets.{Described, metadata_of}
use Rattle.ice_meta.specs.declared.metadata.Target.{Target}
use Rattle.ice_meta.specs.declared.metadata.Target.TheVariants as target
use Rattle.ice_state.specs.Contents.{World}
use Rattle.icescan_audit.proofs.Steps.{audit_there, no_rows, rows_more}
use Rattle.icescan_audit.specs.AnyFiles.{IsAnAudit, IsReadOf, IsReadOfRow}
use Rattle.icescan_audit.specs.Audits.{audit_of, row_audit, rows_audit}
use Rattle.icescan_audit.specs.Premises.{HasHonestFiles}
use Rattle.icescan_audit.specs.declared.audit.Audit.{Audit}
use Rattle.icescan_audit.specs.declared.audit.Reading.{Reading}
use Rattle.icescan_audit_findings.specs.Bases.{among}
use Rattle.icescan_audit_findings.specs.Telling.{faults, is_fault}
use Rattle.icescan_audit_findings.specs.declared.basis.Basis.{Basis}
use Rattle.icescan_audit_findings.specs.declared.finding.Finding.{Finding}
use Rattle.icescan_forms.specs.declared.format.Format.{Format}
use Rattle.icescan_text.specs.Reads.{AreRowsGiven, file_in, rows_at}
use Rattle.icescan_audit_all.specs.Honest.{HasHonestSnapshotsAt}
use Rattle.icescan_audit_all.specs.Lines.{begins, finding_line, line_before, lines_of, number_of_faults, one_if}
use Rattle.icescan_audit_all.specs.Lines.{told_lines, total_line}
use Rattle.icescan_audit_all.specs.Snapshots.{ids_of}
use Rattle.icescan_audit_all.specs.Texts.{WroteAuditsAt}
use Rattle.icescan_audit_all.specs.declared.audits.SnapshotAudit.{SnapshotAudit}
use Rattle.icescan_audit_all.specs.declared.lines.Line.{Line}

-- ---- no line is about a fault

abbrev AreNoFaults : List Line → Type 0
AreNoFaults ls = AllByRecursion (λ (l : Line). l.is_fault ≡ false) ls

abbrev IsNoFault : Option Line → Type 0
IsNoFault None = Unit {0}
IsNoFault (Some l) = l.is_fault ≡ false

and_false : (b : Bool) → (b && false) ≡ false
and_false true = refl
and_false false = refl

-- a fault is told apart from what is none
fault_begins : (before : Option Line) (l : Line) → IsNoFault before → l.is_fault ≡ true → begins before l ≡ true
fault_begins None l none is = refl
fault_begins (Some b) l none is = rw (none, is) (ap not (and_false (bytes_eq b.front l.front)))

first_told : (before : Option Line) (l : Line) (n : ℕ) (b : Bool) → IsNoFault before → l.is_fault ≡ b
    → one_if (begins before l && l.is_fault) + n ≡ 0 → (l.is_fault ≡ false) × (n ≡ 0)
first_told before l n true none is h =
    let one : one_if (begins before l && l.is_fault) ≡ 1 = rw (fault_begins before l none is, is) refl in
    absurd (omega (arith, one, h))
first_told before l n false none is h =
    let zero : one_if (begins before l && l.is_fault) ≡ 0 =
    ap (λ f. one_if (begins before l && f)) is ∙ ap one_if (and_false (begins before l)) in
    (is, omega (arith, zero, h))

no_faults : (before : Option Line) (ls : List Line) → IsNoFault before → number_of_faults before ls ≡ 0
    → AreNoFaults ls
no_faults before [] none h = tt
no_faults before (l ∷ ls) none h =
    let p = first_told before l (number_of_faults (Some l) ls) l.is_fault none refl h in
    (p.0, no_faults (Some l) ls p.0 p.1)

module _ {X : Type 0} (P : X → Type 0) where
  put_back : (before : X → X → Bool) (x : X) (ys : List X) → AllByRecursion P (put before x ys)
      → P x × AllByRecursion P ys
  put_back before x [] h = h
  put_back before x (y ∷ ys) h =
      elim (before y x) as (λ b. AllByRecursion P (cond b (y ∷ put before x ys) (x ∷ y ∷ ys))
      → P x × AllByRecursion P (y ∷ ys)) [
        | true ↦ λ k. let r = put_back before x ys k.1 in (r.0, (k.0, r.1))
        | false ↦ λ k. k
      ] h

  sorted_back : (before : X → X → Bool) (xs : List X) → AllByRecursion P (sorted before xs) → AllByRecursion P xs
  sorted_back before [] h = tt
  sorted_back before (x ∷ xs) h =
      let r = put_back before x (sorted before xs) h in (r.0, sorted_back before xs r.1)

  front : (xs ys : List X) → AllByRecursion P (xs ++ ys) → AllByRecursion P xs
  front [] ys h = tt
  front (x ∷ xs) ys h = (h.0, front xs ys h.1)

  back : (xs ys : List X) → AllByRecursion P (xs ++ ys) → AllByRecursion P ys
  back [] ys h = h
  back (x ∷ xs) ys h = back xs ys h.1

faultless : (form : Format) (id : ℤ) (xs : List Finding) → AreNoFaults (map (finding_line form id) xs)
    → faults xs ≡ []
faultless form id [] h = refl
faultless form id (x ∷ xs) h = let none : is_fault x.flaw ≡ false = h.0 in rw none (faultless form id xs h.1)

abbrev IsFaultless : SnapshotAudit → Type 0
IsFaultless a = faults a.audit.findings ≡ []

each_faultless : (form : Format) (audits : List SnapshotAudit) → AreNoFaults (flat_map (lines_of form) audits)
    → AllByRecursion IsFaultless audits
each_faultless form [] h = tt
each_faultless form (a ∷ others) h =
    let P : Line → Type 0 = λ l. l.is_fault ≡ false in
    let own = front P (lines_of form a) (flat_map (lines_of form) others) h in (
      faultless form a.snapshot a.audit.findings (front P (map (finding_line form a.snapshot) a.audit.findings)
          (map (total_line form a.snapshot) a.audit.false_totals) own),
      each_faultless form others (back P (lines_of form a) (flat_map (lines_of form) others) h),
    )

pub all_faultless : (form : Format) (audits : List SnapshotAudit) → number_of_faults None (told_lines form audits) ≡ 0
    → All IsFaultless audits
all_faultless form audits h =
    let lines = flat_map (lines_of form) audits in
    All-from_recursion IsFaultless audits (each_faultless form audits
    (sorted_back (λ (l : Line). l.is_fault ≡ false) line_before lines (no_faults None (sorted line_before lines) tt h)))

-- ---- where reads give what a world has

file_there : (world : World) (path bytes : List ℕ) → world path ≡ Some bytes → file_in world path ≡ Ok bytes
unfolding file_in
file_there world path bytes is = rw is refl

module _ (gives : Giving) (world : World) (truth : AreOf gives world) where
  row_there : (basis : Basis) (row : Row) (read : Reading) → IsReadOfRow gives basis row read
      → row_audit world basis row ≡ Ok read
  unfolding row_audit file_in
  row_there basis row read h = let is = truth row.path (Some h.0) h.1 in rw is h.2

  rows_there : (basis : Basis) (rows : List Row) (read : Reading) → IsReadOf gives basis rows read
      → rows_audit world basis rows ≡ Ok read
  rows_there basis [] read h = no_rows world basis ∙ ap Ok (sym h)
  rows_there basis (row ∷ rows) read h =
      rows_more world basis row rows h.0 h.1 (row_there basis row h.0 h.2) (rows_there basis rows h.1 h.3)
      ∙ ap Ok (sym h.4)

  list_there : (list : List ℕ) (rows : List Row) → AreRowsGiven gives list rows → rows_at world list ≡ Ok rows
  unfolding rows_at file_in
  list_there list rows h = let is = truth list (Some h.0) h.1 in rw is h.2

  is_the_audit : (metadata : List ℕ) (of : Target) (audit : Audit) → IsAnAudit gives metadata of audit
      → audit_of world metadata of ≡ Ok audit
  is_the_audit metadata of audit h =
      audit_there (λ _. ⊥) world metadata of h.subject h.asked h.rows (list_there h.subject.list h.rows h.listed) h.known
      h.read (rows_there (among h.rows h.subject.basis) h.rows h.read h.manifests) ∙ ap Ok (sym h.is)

abbrev TellsOfFiles : Type 0
TellsOfFiles = (world : World) (metadata : List ℕ) (of : Target) (audit : Audit)
    → audit_of world metadata of ≡ Ok audit → faults audit.findings ≡ [] → HasHonestFiles world metadata of

-- one of the audits is that of a snapshot of this id
of_id : (P : ℤ → Type 0) (audits : List SnapshotAudit) (ids : List ℤ) (id : ℤ)
    → map (λ (a : SnapshotAudit). a.snapshot) audits ≡ ids → All (λ (a : SnapshotAudit). P a.snapshot) audits
    → Contains ids id → P id
of_id P audits ids id same all has =
    All-contains P ids id (subst (All P) same (All-map P (λ (a : SnapshotAudit). a.snapshot) audits all)) has

pub honest_snapshots : TellsOfFiles → (form : Format) (gives : Giving) (world : World) (path : List ℕ)
    (o o' : Option (List ℕ)) → AreOf gives world → WroteAuditsAt form gives path 0 o o'
    → HasHonestSnapshotsAt world path
honest_snapshots law form gives world path o o' truth h = λ metadata d id there is has.
    let read : file_in world path ≡ Ok h.metadata = file_there world path h.metadata (truth path _ h.given) in
    let one : h.metadata ≡ metadata = let a = read in let b = there in cc in
    let of_d : metadata_of metadata ≡ Ok h.are.d = subst (λ (m : List ℕ). metadata_of m ≡ Ok h.are.d) one h.are.asked in
    let same : h.are.d ≡ d = let a = of_d in let b = is in cc in
    let none = all_faultless form h.audits (sym h.counted) in
    let each : All (λ (a : SnapshotAudit). HasHonestFiles world h.metadata (target.Snapshot a.snapshot)) h.audits =
    λ k a low. law world h.metadata (target.Snapshot _) _ (is_the_audit gives world truth h.metadata _ _
    (h.are.each k a low)) (none k a low) in
    subst (λ (m : List ℕ). HasHonestFiles world m (target.Snapshot id)) one
    (of_id (λ i. HasHonestFiles world h.metadata (target.Snapshot i)) h.audits (ids_of d.table) id
    (h.are.all ∙ ap (λ (x : Described). ids_of x.table) same) each has)
