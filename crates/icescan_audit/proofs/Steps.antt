-- The steps of an audit, and why each of them may end the run.
use Rattle.std.proofs.Common.{◌≡◌, ◌≢◌, ◌⊎◌, ℕ, ◌+◌, List, [], ◌∷◌, ◌++◌, length, refl, sym, ap, subst, ◌∙◌}
use Rattle.std.proofs.Common.{Option, Some, None, add_assoc, append_assoc, zero-add, ◌<◌, ◌≤◌}
use Rattle.std.proofs.Common.{add-one, add-zero, drop, drop-cons, get_or}
use Rattle.std.proofs.Math.ListN.{drop_of_length-le}
use Rattle.std.proofs.lemmas.List.{append-nil}
use Rattle.std.specs.Prelude.{Result, Ok, Err}
use Rattle.contract_words.specs.Outcome.{◌>>=◌}
use Rattle.icescan_audit_findings.specs.declared.basis.Basis.{Basis}
use Rattle.icescan_audit_findings.specs.declared.finding.Finding.{Finding}
use Rattle.icescan_audit_findings.specs.Bases.{among}
use Rattle.icescan_audit_findings.specs.Repeats.{live_files}
use Rattle.icescan_audit_findings.specs.declared.repeats.LiveFile.{LiveFile}
use Rattle.ice_desk.specs.Wanted.{paths_of}
use Rattle.ice_desk.specs.Worlds.{EndsAt}
use Rattle.ice_manifest_fields.specs.declared.fault.ManifestFault.{ManifestFault}
use Rattle.ice_manifest_fields.specs.declared.fault.ManifestFault.TheVariants as manifest
use Rattle.ice_manifest_reading.specs.Manifests.{live_of}
use Rattle.ice_manifest_reading.specs.declared.entry.Live.{Live}
use Rattle.ice_manifest_reading.specs.declared.row.Row.{Row}
use Rattle.ice_meta.specs.declared.metadata.Target.{Target}
use Rattle.ice_meta.specs.declared.spec.Spec.{Spec}
use Rattle.ice_state.specs.Contents.{World}
use Rattle.ice_state.specs.declared.fault.ScanFault.TheVariants as scan
use Rattle.ice_state.specs.Specs.{spec_of}
use Rattle.icescan_text.proofs.Steps.{fails_later, first_ends, more_reads, only_first, step, then_ends}
use Rattle.icescan_text.proofs.Enough.{enough, not_enough}
use Rattle.icescan_text.specs.Reads.{MayEnd, as_run, file_in, rows_at, rows_in}
use Rattle.icescan_text.specs.declared.fault.RunFault.{RunFault}
use Rattle.icescan_text.specs.declared.fault.RunFault.TheVariants as run
use Rattle.icescan_audit.specs.Audits.{all_known, audit_at, audit_of, audit_reads, audit_reads_at, bytes_findings}
use Rattle.icescan_audit.specs.Audits.{joined}
use Rattle.icescan_audit.specs.Audits.{manifests_of, nothing, of_manifest, reads_behind}
use Rattle.icescan_audit.specs.Audits.{or_unknown, reads_of, row_audit, rows_audit, spec_for, whole}
use Rattle.icescan_audit.specs.Subjects.{IsOfMetadata, subject_of}
use Rattle.icescan_audit.specs.declared.audit.Audit.{Audit}
use Rattle.icescan_audit.specs.declared.audit.Reading.{Reading}
use Rattle.icescan_audit.specs.declared.subject.Subject.{Subject}

-- ---- the manifest of a row

-- a manifest's own fault is the run's
pub manifest_ends : {A : Type 0} (read : Result A ManifestFault) (r : List ℕ → Type 0) (w : Type 0) (path : List ℕ)
    (f : ManifestFault) → (f ≢ manifest.Memory → read ≡ Err f)
    → MayEnd (as_run (of_manifest path) read) r w (of_manifest path f)
manifest_ends read r w path manifest.Memory h = tt
manifest_ends read r w path (manifest.Avro e) h = ap (as_run (of_manifest path)) (h (λ m. cc))
manifest_ends read r w path (manifest.MissingField id) h = ap (as_run (of_manifest path)) (h (λ m. cc))
manifest_ends read r w path (manifest.WrongFieldType id) h = ap (as_run (of_manifest path)) (h (λ m. cc))
manifest_ends read r w path (manifest.OutOfRange id) h = ap (as_run (of_manifest path)) (h (λ m. cc))
manifest_ends read r w path manifest.BadContent h = ap (as_run (of_manifest path)) (h (λ m. cc))
manifest_ends read r w path manifest.BadStatus h = ap (as_run (of_manifest path)) (h (λ m. cc))
manifest_ends read r w path manifest.NoSequence h = ap (as_run (of_manifest path)) (h (λ m. cc))
manifest_ends read r w path (manifest.FloatPartition id) h = ap (as_run (of_manifest path)) (h (λ m. cc))

unknown_ends : (r : List ℕ → Type 0) (w : Type 0) (row : Row) (o : Option Spec) (e : RunFault)
    → or_unknown row o ≡ Err e → MayEnd (or_unknown row o) r w e
unknown_ends r w row None e h =
    let unknown = run.Scan (scan.NoSuchSpec row.spec_id) in
    let this : unknown ≡ e = cc in
    subst (λ x. MayEnd {A = Spec} (Err unknown) r w x) this refl
unknown_ends r w row (Some spec) e h = absurd cc

module _ (f : List ℕ → Type 0) (world : World) (basis : Basis) (row : Row) where
  abbrev at_row : List ℕ → Type 0
  at_row = EndsAt world f (row.path ∷ [])

  pub no_spec : (e : RunFault) → spec_for basis.specs row ≡ Err e → MayEnd (row_audit world basis row) at_row ⊥ e
  unfolding row_audit
  no_spec e h = first_ends at_row ⊥ at_row (spec_for basis.specs row) _ e (λ p m. m)
      (unknown_ends at_row ⊥ row (spec_of basis.specs row.spec_id) e h)

  module _ (spec : Spec) (known : spec_for basis.specs row ≡ Ok spec) where
    pub no_bytes : (e : RunFault) → MayEnd (file_in world row.path) at_row ⊥ e
        → MayEnd (row_audit world basis row) at_row ⊥ e
    unfolding row_audit
    no_bytes e h = then_ends at_row ⊥ (spec_for basis.specs row) _ spec e known
        (first_ends at_row ⊥ at_row (file_in world row.path) _ e (λ p m. m) h)

    module _ (bytes : List ℕ) (has : file_in world row.path ≡ Ok bytes) where
      pub no_entries : (e : RunFault)
          → MayEnd (as_run (of_manifest row.path) (live_of row spec bytes)) (λ _. ⊥) ⊥ e
          → MayEnd (row_audit world basis row) at_row ⊥ e
      unfolding row_audit
      no_entries e h = then_ends at_row ⊥ (spec_for basis.specs row) _ spec e known
          (then_ends at_row ⊥ (file_in world row.path) _ bytes e has
          (first_ends at_row ⊥ (λ _. ⊥) (as_run (of_manifest row.path) (live_of row spec bytes)) _ e
          (λ p m. absurd m) h))

      pub row_there : (lives : List Live) → live_of row spec bytes ≡ Ok lives → row_audit world basis row
          ≡ Ok (record {
            manifests = 1;
            entries = length lives;
            findings = bytes_findings basis row spec bytes lives;
            live = live_files basis row lives;
          })
      unfolding row_audit
      row_there lives is = rw (known, has, is) refl

-- ---- the manifests of all rows

row_bytes : (world : World) (basis : Basis) (row : Row) (read : Reading) → row_audit world basis row ≡ Ok read
    → (bytes : List ℕ) × (file_in world row.path ≡ Ok bytes)
unfolding row_audit
row_bytes world basis row read h =
    let one = step (spec_for basis.specs row) _ read h in
    let two = step (file_in world row.path) _ read one.2 in
    (two.0, two.1)

module _ (f : List ℕ → Type 0) (world : World) (basis : Basis) (row : Row) (rows : List Row) where
  abbrev at_rows : List ℕ → Type 0
  at_rows = EndsAt world f (paths_of (row ∷ rows))

  pub first_row_ends : (e : RunFault) → MayEnd (row_audit world basis row) (EndsAt world f (row.path ∷ [])) ⊥ e
      → MayEnd (rows_audit world basis (row ∷ rows)) at_rows ⊥ e
  unfolding rows_audit
  first_row_ends e h = first_ends at_rows ⊥ (EndsAt world f (row.path ∷ [])) (row_audit world basis row) _ e
      (λ p m. only_first world f row.path (paths_of rows) p m) h

  pub later_row_ends : (read : Reading) (e : RunFault) → row_audit world basis row ≡ Ok read
      → MayEnd (rows_audit world basis rows) (EndsAt world f (paths_of rows)) ⊥ e
      → MayEnd (rows_audit world basis (row ∷ rows)) at_rows ⊥ e
  unfolding rows_audit
  later_row_ends read e is h =
      let bytes = row_bytes world basis row read is in
      then_ends at_rows ⊥ (row_audit world basis row) _ read e is
      (first_ends at_rows ⊥ (EndsAt world f (paths_of rows)) (rows_audit world basis rows) _ e
      (λ p m. fails_later world f row.path bytes.0 (paths_of rows) p bytes.1 m) h)

pub rows_more : (world : World) (basis : Basis) (row : Row) (rows : List Row) (a b : Reading)
    → row_audit world basis row ≡ Ok a → rows_audit world basis rows ≡ Ok b
    → rows_audit world basis (row ∷ rows) ≡ Ok (joined a b)
unfolding rows_audit
rows_more world basis row rows a b is has = rw (is, has) refl

pub no_rows : (world : World) (basis : Basis) → rows_audit world basis [] ≡ Ok nothing
unfolding rows_audit
no_rows world basis = refl

-- the rows from one on: it, and those behind it
pub row_step : (rows : List Row) (i : ℕ) (row : Row) → i < length rows → row ≡ get_or rows i row
    → drop i rows ≡ row ∷ drop (i + 1) rows
row_step rows i row lt is = drop-cons rows i row lt ∙ rw (← is, add-one) refl

pub nothing_joined : (n m : ℕ) (fs : List Finding) (ls : List LiveFile)
    → joined (record { manifests = n; entries = m; findings = fs; live = ls }) nothing
    ≡ record { manifests = n; entries = m; findings = fs; live = ls }
nothing_joined n m fs ls = simp (add-zero, append-nil)

-- behind the last row nothing is left to audit
pub rows_end : (world : World) (basis : Basis) (rows : List Row) (i n m : ℕ) (fs : List Finding) (ls : List LiveFile)
    → length rows ≤ i → i ≡ n
    → ((left : Reading) → rows_audit world basis (drop i rows) ≡ Ok left
    → rows_audit world basis rows
    ≡ Ok (joined (record { manifests = i; entries = m; findings = fs; live = ls }) left))
    → rows_audit world basis rows ≡ Ok (record { manifests = n; entries = m; findings = fs; live = ls })
rows_end world basis rows i n m fs ls past is h =
    let none : drop i rows ≡ [] = drop_of_length-le rows past in
    h nothing (ap (rows_audit world basis) none ∙ no_rows world basis) ∙ rw is (ap Ok (nothing_joined n m fs ls))

pub join_nothing : (a : Reading) → joined nothing a ≡ a
join_nothing a = simp zero-add

-- what is joined to one more
pub joins : (i m n : ℕ) (fs gs : List Finding) (ks ls : List LiveFile) (x a : Reading) → x.manifests ≡ 1
    → x.entries ≡ n → gs ≡ fs ++ x.findings → ls ≡ ks ++ x.live
    → joined (record { manifests = i; entries = m; findings = fs; live = ks }) (joined x a)
    ≡ joined (record { manifests = i + 1; entries = m + n; findings = gs; live = ls }) a
joins i m n fs gs ks ls x a one es found has = rw (one, es, found, has) (simp (add_assoc, append_assoc))

-- ---- a snapshot

-- a refusal of the metadata comes before any read
metadata_ends : {A : Type 0} (read : Result A RunFault) (r : List ℕ → Type 0) (w : Type 0) (e : RunFault)
    → IsOfMetadata e → (e ≢ run.Memory → read ≡ Err e) → MayEnd read r w e
metadata_ends read r w run.Memory is h = tt
metadata_ends read r w (run.Metadata f) is h = h (λ m. cc)
metadata_ends read r w (run.Filter f) is h = absurd is
metadata_ends read r w (run.Device path) is h = absurd is
metadata_ends read r w run.Write is h = absurd is
metadata_ends read r w run.Input is h = absurd is
metadata_ends read r w (run.Words t) is h = absurd is
metadata_ends read r w (run.Bundle n) is h = absurd is
metadata_ends read r w (run.Absent path) is h = absurd is
metadata_ends read r w (run.List f) is h = absurd is
metadata_ends read r w (run.Scan f) is h = absurd is
metadata_ends read r w (run.Finish f) is h = absurd is
metadata_ends read r w (run.Drill f) is h = absurd is
metadata_ends read r w (run.Locate f) is h = absurd is
metadata_ends read r w (run.State path flaw) is h = absurd is
metadata_ends read r w (run.Lineage f) is h = absurd is
metadata_ends read r w (run.Change f) is h = absurd is
metadata_ends read r w (run.Prepare f) is h = absurd is
metadata_ends read r w (run.Conflict path) is h = absurd is
metadata_ends read r w run.Workers is h = absurd is

pub metadata_is_no_write : (e : RunFault) → IsOfMetadata e → (read : Result Audit RunFault) → read ≡ Err e
    → read ≡ Err run.Write → ⊥
metadata_is_no_write e own read is failed =
    let same : e ≡ run.Write = cc in
    subst IsOfMetadata same own

list_there : (world : World) (path : List ℕ) (rows : List Row) → rows_at world path ≡ Ok rows → (bytes : List ℕ)
    × (file_in world path ≡ Ok bytes)
unfolding rows_at
list_there world path rows h = let one = step (file_in world path) rows_in rows h in (one.0, one.1)

known_step : (r : List ℕ → Type 0) (w : Type 0) (row : Row) (o : Option Spec) (rest : Result Unit RunFault)
    (e : RunFault)
    → (rest ≡ Err e → MayEnd rest r w e) → (or_unknown row o >>= λ _. rest) ≡ Err e
    → MayEnd (or_unknown row o >>= λ _. rest) r w e
known_step r w row None rest e next h =
    let unknown = run.Scan (scan.NoSuchSpec row.spec_id) in
    let this : unknown ≡ e = cc in
    subst (λ x. MayEnd {A = Unit {0}} (Err unknown) r w x) this refl
known_step r w row (Some spec) rest e next h = next h

known_ends : (r : List ℕ → Type 0) (w : Type 0) (specs : List Spec) (rows : List Row) (e : RunFault)
    → all_known specs rows ≡ Err e → MayEnd (all_known specs rows) r w e
known_ends r w specs [] e h = absurd cc
known_ends r w specs (row ∷ rows) e h = known_step r w row (spec_of specs row.spec_id) (all_known specs rows) e
    (known_ends r w specs rows e) h

pub not_selected : (f : List ℕ → Type 0) (world : World) (metadata : List ℕ) (target : Target) (e : RunFault)
    → IsOfMetadata e → (e ≢ run.Memory → subject_of metadata target ≡ Err e)
    → MayEnd (audit_of world metadata target) (EndsAt world f (audit_reads world metadata target)) ⊥ e
unfolding audit_of
not_selected f world metadata target e own h =
    first_ends (EndsAt world f (audit_reads world metadata target)) ⊥ (λ _. ⊥) (subject_of metadata target) _ e
    (λ p m. absurd m) (metadata_ends (subject_of metadata target) (λ _. ⊥) ⊥ e own h)

module _ (f : List ℕ → Type 0) (world : World) (metadata : List ℕ) (target : Target) (subject : Subject)
    (is : subject_of metadata target ≡ Ok subject) where
  abbrev stops : List ℕ → Type 0
  stops = EndsAt world f (audit_reads world metadata target)

  reads_are : audit_reads world metadata target ≡ subject.list ∷ manifests_of (rows_at world subject.list)
  unfolding audit_reads
  reads_are = ap (reads_of world) is

  reads_list : (p : List ℕ) → EndsAt world f (subject.list ∷ []) p → stops p
  reads_list p h = subst (λ paths. EndsAt world f paths p) (sym reads_are)
      (only_first world f subject.list (manifests_of (rows_at world subject.list)) p h)

  pub no_list : (e : RunFault) → MayEnd (rows_at world subject.list) (EndsAt world f (subject.list ∷ [])) ⊥ e
      → MayEnd (audit_of world metadata target) stops ⊥ e
  unfolding audit_of
  no_list e h =
      then_ends stops ⊥ (subject_of metadata target) _ subject e is
      (first_ends stops ⊥ (EndsAt world f (subject.list ∷ [])) (rows_at world subject.list) _ e reads_list h)

  module _ (rows : List Row) (has : rows_at world subject.list ≡ Ok rows) where
    reads_manifests : (p : List ℕ) → EndsAt world f (paths_of rows) p → stops p
    reads_manifests p h =
        let bytes = list_there world subject.list rows has in
        subst (λ paths. EndsAt world f paths p) (sym reads_are)
        (subst (λ found. EndsAt world f (subject.list ∷ manifests_of found) p) (sym has)
        (fails_later world f subject.list bytes.0 (paths_of rows) p bytes.1 h))

    pub no_specs : (e : RunFault) → all_known subject.basis.specs rows ≡ Err e
        → MayEnd (audit_of world metadata target) stops ⊥ e
    unfolding audit_of
    no_specs e h =
        then_ends stops ⊥ (subject_of metadata target) _ subject e is
        (then_ends stops ⊥ (rows_at world subject.list) _ rows e has
        (first_ends stops ⊥ (λ _. ⊥) (all_known subject.basis.specs rows) _ e (λ p m. absurd m)
        (known_ends (λ _. ⊥) ⊥ subject.basis.specs rows e h)))

    module _ (known : all_known subject.basis.specs rows ≡ Ok tt) where
      audit_is : audit_of world metadata target
          ≡ (rows_audit world (among rows subject.basis) rows >>= λ read. Ok (whole subject.said read))
      unfolding audit_of
      audit_is = rw (is, has, known) refl

      pub no_audit : (e : RunFault)
          → MayEnd (rows_audit world (among rows subject.basis) rows) (EndsAt world f (paths_of rows)) ⊥ e
          → MayEnd (audit_of world metadata target) stops ⊥ e
      unfolding audit_of
      no_audit e h =
          let later = first_ends stops ⊥ (EndsAt world f (paths_of rows))
          (rows_audit world (among rows subject.basis) rows) (λ read. Ok (whole subject.said read)) e reads_manifests h in
          subst (λ found. MayEnd found stops ⊥ e) (sym audit_is) later

      pub audit_there : (read : Reading) → rows_audit world (among rows subject.basis) rows ≡ Ok read
          → audit_of world metadata target ≡ Ok (whole subject.said read)
      audit_there read h = audit_is ∙ ap (λ (found : Result Reading RunFault). found >>= λ r. Ok (whole subject.said r)) h

-- ---- the metadata in a file

module _ (f : List ℕ → Type 0) (world : World) (path : List ℕ) (target : Target) (workers : ℕ) where
  abbrev at_reads : List ℕ → Type 0
  at_reads = EndsAt world f (audit_reads_at world path target)

  pub no_workers : (w : Type 0) (e : RunFault) → (e ≡ run.Workers) × ((workers ≡ 0) ⊎ (64 < workers))
      → MayEnd (audit_at world path target workers) at_reads w e
  unfolding audit_at
  no_workers w e h = subst (λ x. MayEnd (audit_at world path target workers) at_reads w x) (sym h.0)
      (not_enough workers _ h.1)

  module _ (some : 0 < workers) (few : workers ≤ 64) where
    audit_in : audit_at world path target workers ≡ (file_in world path >>= λ metadata. audit_of world metadata target)
    unfolding audit_at
    audit_in = enough workers _ some few

    pub no_metadata : (w : Type 0) (e : RunFault) → MayEnd (file_in world path) (EndsAt world f (path ∷ [])) ⊥ e
        → MayEnd (audit_at world path target workers) at_reads w e
    unfolding audit_reads_at
    no_metadata w e h = subst (λ x. MayEnd x at_reads w e) (sym audit_in)
        (first_ends at_reads w (EndsAt world f (path ∷ [])) (file_in world path) _ e
        (λ p m. only_first world f path (reads_behind world target (file_in world path)) p m) h)

    module _ (metadata : List ℕ) (has : file_in world path ≡ Ok metadata) where
      pub audit_behind : audit_at world path target workers ≡ audit_of world metadata target
      audit_behind = audit_in ∙ rw has refl

      reads_of_audit : (p : List ℕ) → EndsAt world f (audit_reads world metadata target) p → at_reads p
      unfolding audit_reads_at
      reads_of_audit p h =
          subst (λ found. EndsAt world f (path ∷ reads_behind world target found) p) (sym has)
          (fails_later world f path metadata (audit_reads world metadata target) p has h)

      pub ends_behind : (w : Type 0) (e : RunFault)
          → MayEnd (audit_of world metadata target) (EndsAt world f (audit_reads world metadata target)) w e
          → MayEnd (audit_at world path target workers) at_reads w e
      ends_behind w e h = subst (λ x. MayEnd x at_reads w e) (sym audit_behind)
          (more_reads (audit_of world metadata target) (EndsAt world f (audit_reads world metadata target)) at_reads w e
          reads_of_audit h)
