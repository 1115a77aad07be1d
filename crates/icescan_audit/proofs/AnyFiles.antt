-- Audits over any files: what was read of some bytes, and why a step of an audit may end the run.
use Rattle.std.proofs.Common.{◌≡◌, ◌≤◌, ℕ, List, [], ◌∷◌, length, drop, refl, sym, ap, subst, Option, Some, None}
use Rattle.std.proofs.Math.ListN.{drop_of_length-le}
use Rattle.std.specs.Prelude.{Result, Ok, Err}
use Rattle.contract_words.specs.Outcome.{◌>>=◌}
use Rattle.icescan_audit_findings.specs.declared.basis.Basis.{Basis}
use Rattle.icescan_audit_findings.specs.declared.finding.Finding.{Finding}
use Rattle.icescan_audit_findings.specs.declared.repeats.LiveFile.{LiveFile}
use Rattle.ice_desk.specs.Given.{Giving}
use Rattle.ice_desk.specs.Worlds.{HasAt}
use Rattle.ice_manifest_fields.specs.declared.fault.ManifestFault.{ManifestFault}
use Rattle.ice_manifest_fields.specs.declared.fault.ManifestFault.TheVariants as manifest
use Rattle.ice_manifest_reading.specs.declared.row.Row.{Row}
use Rattle.ice_meta.specs.declared.spec.Spec.{Spec}
use Rattle.ice_state.specs.Contents.{World}
use Rattle.ice_state.specs.Specs.{spec_of}
use Rattle.ice_state.specs.declared.fault.ScanFault.TheVariants as scan
use Rattle.icescan_text.specs.Reads.{MayEnd, as_run, file_in}
use Rattle.icescan_text.specs.declared.fault.RunFault.{RunFault}
use Rattle.icescan_text.specs.declared.fault.RunFault.TheVariants as run
use Rattle.ice_meta.specs.declared.metadata.Target.{Target}
use Rattle.icescan_audit_findings.specs.Bases.{among}
use Rattle.icescan_audit.specs.AnyFiles.{IsAnAudit, IsReadOf, IsReadOfRow, MayStop}
use Rattle.icescan_audit.specs.Audits.{all_known, joined, nothing, of_manifest, or_unknown}
use Rattle.icescan_audit.specs.Subjects.{IsOfMetadata}
use Rattle.icescan_audit.specs.declared.audit.Audit.{Audit}
use Rattle.icescan_audit.specs.declared.audit.Reading.{Reading}
use Rattle.icescan_audit.proofs.Steps.{nothing_joined}

-- ---- what was read

-- some bytes at each path
pub given : (path bytes : List ℕ) → file_in (λ p. Some bytes) path ≡ Ok bytes
unfolding file_in
given path bytes = refl

pub read_more : (gives : Giving) (basis : Basis) (row : Row) (rows : List Row) (a b : Reading)
    → IsReadOfRow gives basis row a
    → IsReadOf gives basis rows b → IsReadOf gives basis (row ∷ rows) (joined a b)
read_more gives basis row rows a b first others = (a, b, first, others, refl)

-- behind the last row nothing is left to read
pub read_end : (gives : Giving) (basis : Basis) (rows : List Row) (i n m : ℕ) (fs : List Finding) (ls : List LiveFile)
    → length rows ≤ i → i ≡ n
    → ((left : Reading) → IsReadOf gives basis (drop i rows) left
    → IsReadOf gives basis rows (joined (record { manifests = i; entries = m; findings = fs; live = ls }) left))
    → IsReadOf gives basis rows (record { manifests = n; entries = m; findings = fs; live = ls })
read_end gives basis rows i n m fs ls past is h =
    let none : drop i rows ≡ [] = drop_of_length-le rows past in
    let last = h nothing (subst (λ rs. IsReadOf gives basis rs nothing) (sym none) refl) in
    subst (λ k. IsReadOf gives basis rows (record { manifests = k; entries = m; findings = fs; live = ls })) is
    (subst (IsReadOf gives basis rows) (nothing_joined i m fs ls) last)

-- reads that may give more
module _ (gives more : Giving) (wider : (path : List ℕ) (found : Option (List ℕ)) → gives path found → more path found)
  where
    more_read : (basis : Basis) (rows : List Row) (read : Reading) → IsReadOf gives basis rows read
        → IsReadOf more basis rows read
    more_read basis [] read h = h
    more_read basis (row ∷ rows) read h = (
      h.0,
      h.1,
      (h.2.0, wider row.path _ h.2.1, h.2.2),
      more_read basis rows h.1 h.3,
      h.4,
    )

    pub more_audits : (metadata : List ℕ) (target : Target) (audit : Audit) → IsAnAudit gives metadata target audit
        → IsAnAudit more metadata target audit
    more_audits metadata target audit h = record {
      subject = h.subject;
      rows = h.rows;
      read = h.read;
      asked = h.asked;
      listed = (h.listed.0, wider h.subject.list _ h.listed.1, h.listed.2);
      known = h.known;
      manifests = more_read (among h.rows h.subject.basis) h.rows h.read h.manifests;
      is = h.is;
    }

-- ---- why a step may end the run

module _ (world : Option World) (f : List ℕ → Type 0) where
  pub stops_by : (w : Type 0) (e : RunFault) → ((path : List ℕ) → e ≡ run.Absent path → HasAt world path None)
      → ((path : List ℕ) → e ≡ run.Device path → f path) → (e ≡ run.Write → w) → MayStop world f w e
  stops_by w (run.Absent path) absent device write = absent path refl
  stops_by w (run.Device path) absent device write = device path refl
  stops_by w run.Write absent device write = write refl
  stops_by w run.Memory absent device write = tt
  stops_by w run.Input absent device write = tt
  stops_by w run.Workers absent device write = tt
  stops_by w (run.Words t) absent device write = tt
  stops_by w (run.Bundle n) absent device write = tt
  stops_by w (run.List x) absent device write = tt
  stops_by w (run.Scan x) absent device write = tt
  stops_by w (run.Finish x) absent device write = tt
  stops_by w (run.Metadata x) absent device write = tt
  stops_by w (run.Filter x) absent device write = tt
  stops_by w (run.Drill x) absent device write = tt
  stops_by w (run.Locate x) absent device write = tt
  stops_by w (run.State path flaw) absent device write = tt
  stops_by w (run.Lineage x) absent device write = tt
  stops_by w (run.Change x) absent device write = tt
  stops_by w (run.Prepare x) absent device write = tt
  stops_by w (run.Conflict path) absent device write = tt

  -- reading a file or a list
  pub read_stops : {A : Type 0} (e : RunFault)
      → ((path : List ℕ) → ◌≡◌ {A = Result A RunFault} (Err e) (Err (run.Absent path)) → HasAt world path None)
      → ((path : List ℕ) → ◌≡◌ {A = Result A RunFault} (Err e) (Err (run.Device path)) → f path)
      → (◌≡◌ {A = Result A RunFault} (Err e) (Err run.Write) → ⊥) → MayStop world f ⊥ e
  read_stops e absent device write =
      stops_by ⊥ e (λ path is. absent path (ap Err is)) (λ path is. device path (ap Err is)) (λ is. write (ap Err is))

  -- metadata
  pub metadata_stops : (e : RunFault) → IsOfMetadata e → MayStop world f ⊥ e
  metadata_stops e own =
      stops_by ⊥ e (λ path is. absurd (subst IsOfMetadata is own)) (λ path is. absurd (subst IsOfMetadata is own))
      (λ is. absurd (subst IsOfMetadata is own))

  -- a spec that is missing
  pub spec_stops : (row : Row) (o : Option Spec) (e : RunFault) → or_unknown row o ≡ Err e → MayStop world f ⊥ e
  spec_stops row None e h =
      let this : run.Scan (scan.NoSuchSpec row.spec_id) ≡ e = cc in
      subst (MayStop world f ⊥) this tt
  spec_stops row (Some spec) e h = absurd cc

  known_step : (row : Row) (o : Option Spec) (rest : Result Unit RunFault) (e : RunFault)
      → (rest ≡ Err e → MayStop world f ⊥ e) → (or_unknown row o >>= λ _. rest) ≡ Err e → MayStop world f ⊥ e
  known_step row None rest e next h = spec_stops row None e cc
  known_step row (Some spec) rest e next h = next h

  pub specs_stop : (specs : List Spec) (rows : List Row) (e : RunFault) → all_known specs rows ≡ Err e
      → MayStop world f ⊥ e
  specs_stop specs [] e h = absurd cc
  specs_stop specs (row ∷ rows) e h = known_step row (spec_of specs row.spec_id) (all_known specs rows) e
      (specs_stop specs rows e) h

  -- a manifest
  not_absent : {A : Type 0} (path p : List ℕ) (read : Result A ManifestFault)
      → as_run (of_manifest path) read ≡ Err (run.Absent p) → HasAt world p None
  not_absent path p (Ok x) h = absurd cc
  not_absent path p (Err manifest.Memory) h = absurd cc
  not_absent path p (Err (manifest.Avro e)) h = absurd cc
  not_absent path p (Err (manifest.MissingField id)) h = absurd cc
  not_absent path p (Err (manifest.WrongFieldType id)) h = absurd cc
  not_absent path p (Err (manifest.OutOfRange id)) h = absurd cc
  not_absent path p (Err manifest.BadContent) h = absurd cc
  not_absent path p (Err manifest.BadStatus) h = absurd cc
  not_absent path p (Err manifest.NoSequence) h = absurd cc
  not_absent path p (Err (manifest.FloatPartition id)) h = absurd cc

  pub manifest_stops : {A : Type 0} (path : List ℕ) (read : Result A ManifestFault) (e : RunFault)
      → MayEnd (as_run (of_manifest path) read) (λ _. ⊥) ⊥ e → MayStop world f ⊥ e
  manifest_stops path read e h =
      let why : RunFault → Type 0 = λ x. MayEnd (as_run (of_manifest path) read) (λ _. ⊥) ⊥ x in
      stops_by ⊥ e (λ p is. not_absent path p read (subst why is h)) (λ p is. absurd (subst why is h))
      (λ is. subst why is h)

  -- a write may fail
  pub writes_stop : (w : Type 0) (e : RunFault) → MayStop world f ⊥ e → MayStop world f w e
  writes_stop w e h =
      stops_by w e (λ path is. subst (MayStop world f ⊥) is h) (λ path is. subst (MayStop world f ⊥) is h)
      (λ is. absurd (subst (MayStop world f ⊥) is h))
