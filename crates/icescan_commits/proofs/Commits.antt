-- A request to commit: why each of its steps may end it, and what a prepared commit writes.
use Rattle.std.proofs.Common.{◌≡◌, ◌≢◌, ℕ, List, [], ◌∷◌, Some, refl, sym, ap, subst, ◌∙◌, inl, inr}
use Rattle.std.specs.Prelude.{Option, Result, Ok, Err}
use Rattle.contract_words.specs.Outcome.{◌>>=◌}
use Rattle.ice_catalog_changes.specs.declared.change.Change.{Change}
use Rattle.ice_catalog_changes.specs.declared.change.Commit.{Commit}
use Rattle.ice_catalog_changes.specs.declared.fault.PrepareFault.{PrepareFault}
use Rattle.ice_catalog_changes.specs.declared.fault.PrepareFault.TheVariants as prepare
use Rattle.ice_catalog_versions.specs.declared.opening.Opening.{Opening}
use Rattle.ice_catalog_versions.specs.declared.world.World.{World as Kept}
use Rattle.ice_catalog_versions.specs.Adding.{added}
use Rattle.ice_catalog_versions.specs.Applying.{apply}
use Rattle.ice_catalog_versions.specs.Histories.{History, Step, after, openable, opened, prepared_on, state_of}
use Rattle.ice_catalog_versions.specs.States.{State}
use Rattle.ice_desk.specs.Worlds.{EndsAt}
use Rattle.ice_meta.specs.declared.fault.MetaFault.{MetaFault}
use Rattle.ice_meta.specs.declared.fault.MetaFault.TheVariants as meta
use Rattle.ice_meta.specs.declared.metadata.Target.TheVariants.{Main}
use Rattle.ice_meta.specs.Targets.{Described, list_of}
use Rattle.ice_state.specs.Contents.{World}
use Rattle.icescan_text.specs.declared.change.fault.ChangeFault.{ChangeFault}
use Rattle.icescan_text.specs.declared.change.fault.ChangeFault.TheVariants as change
use Rattle.icescan_text.specs.declared.request.CommitRequest.{CommitRequest}
use Rattle.icescan_text.specs.declared.fault.RunFault.{RunFault}
use Rattle.icescan_text.specs.declared.fault.RunFault.TheVariants as run
use Rattle.icescan_text.specs.Changes.{change_of}
use Rattle.icescan_files.specs.Bundles.{File}
use Rattle.icescan_commits.specs.Commits.{Commitment, IsOfPreparing, IsOfPutting, MayEndCommit, MayNotPut}
use Rattle.icescan_commits.specs.Commits.{MayRefuseACommit, Writes, base_files, base_of}
use Rattle.icescan_commits.specs.Commits.{change_asked, commitment, commitment_from, commitment_on}
use Rattle.icescan_text.specs.Faults.{of_change, of_meta, of_prepare}
use Rattle.icescan_text.specs.Reads.{MayEnd, as_run, file_in}
use Rattle.icescan_text.proofs.Steps.{first_ends, then_ends}

-- ---- a part's fault is the run's

module _ (r : List ℕ → Type 0) (w : Type 0) where
  change_ends : {A : Type 0} (read : Result A ChangeFault) (f : ChangeFault) → (f ≢ change.Memory → read ≡ Err f)
      → MayEnd (as_run of_change read) r w (of_change f)
  change_ends read change.Memory h = tt
  change_ends read change.NotJson h = ap (as_run of_change) (h (λ m. cc))
  change_ends read (change.Bad member) h = ap (as_run of_change) (h (λ m. cc))

  meta_ends : {A : Type 0} (read : Result A MetaFault) (f : MetaFault) → (f ≢ meta.Memory → read ≡ Err f)
      → MayEnd (as_run of_meta read) r w (of_meta f)
  meta_ends read meta.Memory h = tt
  meta_ends read meta.NotJson h = ap (as_run of_meta) (h (λ m. cc))
  meta_ends read (meta.Version n) h = ap (as_run of_meta) (h (λ m. cc))
  meta_ends read (meta.Missing member) h = ap (as_run of_meta) (h (λ m. cc))
  meta_ends read (meta.WrongKind member) h = ap (as_run of_meta) (h (λ m. cc))
  meta_ends read (meta.UnknownType text) h = ap (as_run of_meta) (h (λ m. cc))
  meta_ends read meta.NoSuchRef h = ap (as_run of_meta) (h (λ m. cc))
  meta_ends read meta.NoSuchSnapshot h = ap (as_run of_meta) (h (λ m. cc))
  meta_ends read meta.NoSnapshot h = ap (as_run of_meta) (h (λ m. cc))
  meta_ends read (meta.IdTwice id) h = ap (as_run of_meta) (h (λ m. cc))
  meta_ends read (meta.Dangling member) h = ap (as_run of_meta) (h (λ m. cc))
  meta_ends read meta.TooBig h = ap (as_run of_meta) (h (λ m. cc))

  prepare_ends : {A : Type 0} (read : Result A PrepareFault) (f : PrepareFault) → (f ≢ prepare.Memory → read ≡ Err f)
      → MayEnd (as_run of_prepare read) r w (of_prepare f)
  prepare_ends read prepare.Memory h = tt
  prepare_ends read prepare.SnapshotTaken h = ap (as_run of_prepare) (h (λ m. cc))
  prepare_ends read (prepare.PathTaken path) h = ap (as_run of_prepare) (h (λ m. cc))
  prepare_ends read (prepare.PathTwice path) h = ap (as_run of_prepare) (h (λ m. cc))
  prepare_ends read prepare.Empty h = ap (as_run of_prepare) (h (λ m. cc))
  prepare_ends read (prepare.NoSuchSpec id) h = ap (as_run of_prepare) (h (λ m. cc))
  prepare_ends read (prepare.WrongTuple path) h = ap (as_run of_prepare) (h (λ m. cc))
  prepare_ends read prepare.SequenceEnd h = ap (as_run of_prepare) (h (λ m. cc))
  prepare_ends read (prepare.BaseBad path) h = ap (as_run of_prepare) (h (λ m. cc))
  prepare_ends read (prepare.BadFile path) h = ap (as_run of_prepare) (h (λ m. cc))
  prepare_ends read prepare.TooManyRows h = ap (as_run of_prepare) (h (λ m. cc))
  prepare_ends read prepare.OutOfOrder h = ap (as_run of_prepare) (h (λ m. cc))

-- ---- a version that was just opened

module _ (o : Opening) (m : Described) (is : openable o.bytes ≡ Ok m) (c : Commit) where
  abbrev base : State
  base = record { metadata = m; world = o.world }

  abbrev version : History
  version = record { opening = o; journal = [] }

  is_opened : opened o ≡ Ok version
  is_opened = rw is refl

  abbrev done : Result Step PrepareFault
  done = Ok (record { base = version; commit = c })

  pub version_is : (v : History) → opened o ≡ Ok v → v ≡ version
  version_is v h = let same : ◌≡◌ {A = Result History MetaFault} (Ok v) (Ok version) = sym h ∙ is_opened in cc

  state_is : state_of version ≡ Some base
  unfolding state_of
  state_is = rw is refl

  next_is : (n : State) → apply base c ≡ Ok n → state_of (after version c) ≡ Some n
  unfolding state_of
  next_is n h = rw (is, h) refl

  fault_is : (found : Result State PrepareFault) (e : PrepareFault)
      → (found >>= λ _. done) ≡ Err e → found ≡ Err e
  fault_is (Ok n) e h = absurd cc
  fault_is (Err f) e h = cc

  pub refused_by : (e : PrepareFault) → prepared_on version c ≡ Err e → apply base c ≡ Err e
  refused_by e h = fault_is (apply base c) e (rw state_is at h)

  made_of : (found : Result State PrepareFault) (p : Step) → apply base c ≡ found
      → (found >>= λ _. done) ≡ Ok p
      → (x : Commitment) × (commitment_on base c ≡ Ok x) × Writes p x
  unfolding commitment_on
  made_of (Err f) p is_found h = absurd cc
  made_of (Ok n) p is_found h =
      let same : p ≡ record { base = version; commit = c } = cc in
      let x : Commitment = record { added = added base c; metadata = n.metadata } in
      let writes : Writes (record { base = version; commit = c }) x =
      record { added = rw state_is refl; metadata = rw (next_is n is_found) refl } in
      (x, rw is_found refl, subst (λ q. Writes q x) (sym same) writes)

  pub made_by : (p : Step) → prepared_on version c ≡ Ok p → (x : Commitment) × (commitment_on base c ≡ Ok x) × Writes p
      x
  made_by p h = made_of (apply base c) p refl (rw state_is at h)

-- ---- the request

module _ (f : List ℕ → Type 0) (world : World) where
  fails : (path p : List ℕ) → EndsAt world f (path ∷ []) p → f p
  fails path p (inl h) = subst f (sym h.0) (subst f h.0 h.1)
  fails path p (inr h) = absurd h.1

  module _ (request : CommitRequest) where
    pub no_change : (e : RunFault) → MayEnd (file_in world request.change) (EndsAt world f (request.change ∷ [])) ⊥ e
        → MayEnd (change_asked world request) f ⊥ e
    unfolding change_asked
    no_change e h =
        first_ends f ⊥ (EndsAt world f (request.change ∷ [])) (file_in world request.change) _ e (fails request.change)
        h

    module _ (text : List ℕ) (found : file_in world request.change ≡ Ok text) where
      pub bad_change : (e : ChangeFault) → (e ≢ change.Memory → change_of request.kind text ≡ Err e)
          → MayEnd (change_asked world request) f ⊥ (of_change e)
      unfolding change_asked
      bad_change e h =
          then_ends f ⊥ (file_in world request.change) _ text (of_change e) found
          (change_ends f ⊥ (change_of request.kind text) e h)

      pub change_is : (files : Change) → change_of request.kind text ≡ Ok files → change_asked world request ≡ Ok files
      unfolding change_asked
      change_is files says = rw (found, says) refl

    pub no_metadata : (e : RunFault) → MayEnd (file_in world request.metadata) (EndsAt world f (request.metadata ∷ []))
        ⊥ e
        → MayEnd (commitment world request) f ⊥ e
    unfolding commitment
    no_metadata e h =
        first_ends f ⊥ (EndsAt world f (request.metadata ∷ [])) (file_in world request.metadata) _ e
        (fails request.metadata) h

    module _ (bytes : List ℕ) (has : file_in world request.metadata ≡ Ok bytes) where
      pub not_asked : (e : RunFault) → MayEnd (change_asked world request) f ⊥ e
          → MayEnd (commitment world request) f ⊥ e
      unfolding commitment
      not_asked e h =
          then_ends f ⊥ (file_in world request.metadata) _ bytes e has
          (first_ends f ⊥ f (change_asked world request) _ e (λ p m. m) h)

      pub asked_is : (files : Change) → change_asked world request ≡ Ok files
          → commitment world request ≡ commitment_from world bytes (record { change = files; ids = request.ids })
      unfolding commitment
      asked_is files is = rw (has, is) refl

  -- ---- a table's metadata, and the commit

  module _ (bytes : List ℕ) (commit : Commit) where
    abbrev answer : Result Commitment RunFault
    answer = commitment_from world bytes commit

    pub bad_metadata : (e : MetaFault) → (e ≢ meta.Memory → openable bytes ≡ Err e) → MayEnd answer f ⊥ (of_meta e)
    unfolding commitment_from
    bad_metadata e h =
        first_ends f ⊥ f (as_run of_meta (openable bytes)) _ (of_meta e) (λ p m. m) (meta_ends f ⊥ (openable bytes) e h)

    module _ (m : Described) (is : openable bytes ≡ Ok m) where
      answer_is : answer ≡ commitment_on (base_of world m) commit
      unfolding commitment_from
      answer_is = rw is refl

      module _ (kept : Kept) (base_is : kept ≡ base_files world (list_of Main m.table)) (v : History)
          (opens_as : opened (record { bytes = bytes; world = kept }) ≡ Ok v) where
        abbrev opening : Opening
        opening = record { bytes = bytes; world = kept }

        answer_on : answer ≡ commitment_on (record { metadata = m; world = kept }) commit
        answer_on = answer_is ∙ ap (λ w. commitment_on (record { metadata = m; world = w }) commit) (sym base_is)

        version_at : v ≡ record { opening = opening; journal = [] }
        version_at = version_is opening m is commit v opens_as

        ends_on : (e : PrepareFault) → (e ≢ prepare.Memory → apply (record { metadata = m; world = kept }) commit ≡ Err
            e)
            → MayEnd (commitment_on (record { metadata = m; world = kept }) commit) f ⊥ (of_prepare e)
        unfolding commitment_on
        ends_on e h =
            first_ends f ⊥ f (as_run of_prepare (apply (record { metadata = m; world = kept }) commit)) _ (of_prepare e)
            (λ p m. m)
            (prepare_ends f ⊥ (apply (record { metadata = m; world = kept }) commit) e h)

        pub not_prepared : (e : PrepareFault) → (e ≢ prepare.Memory → prepared_on v commit ≡ Err e)
            → MayEnd answer f ⊥ (of_prepare e)
        not_prepared e h =
            subst (λ a. MayEnd a f ⊥ (of_prepare e)) (sym answer_on)
            (ends_on e (λ no. refused_by opening m is commit e (rw version_at at (h no))))

        pub prepared : (p : Step) → prepared_on v commit ≡ Ok p → (x : Commitment) × (answer ≡ Ok x) × Writes p x
        prepared p h =
            let made = made_by opening m is commit p (rw version_at at h) in
            (made.0, answer_on ∙ made.1, made.2)

-- ---- the causes of preparing

pub fault_prepares : (e : PrepareFault) → IsOfPreparing (of_prepare e)
fault_prepares prepare.Memory = tt
fault_prepares prepare.SnapshotTaken = tt
fault_prepares (prepare.PathTaken path) = tt
fault_prepares (prepare.PathTwice path) = tt
fault_prepares prepare.Empty = tt
fault_prepares (prepare.NoSuchSpec id) = tt
fault_prepares (prepare.WrongTuple path) = tt
fault_prepares prepare.SequenceEnd = tt
fault_prepares (prepare.BaseBad path) = tt
fault_prepares (prepare.BadFile path) = tt
fault_prepares prepare.TooManyRows = tt
fault_prepares prepare.OutOfOrder = tt

-- the faults of reading a file
abbrev pub IsOfReading : RunFault → Type 0
IsOfReading (run.Absent path) = Unit {0}
IsOfReading (run.Device path) = Unit {0}
IsOfReading _ = ⊥

pub prepare_reads_nothing : (e : PrepareFault) → IsOfReading (of_prepare e) → ⊥
prepare_reads_nothing prepare.Memory h = h
prepare_reads_nothing prepare.SnapshotTaken h = h
prepare_reads_nothing (prepare.PathTaken path) h = h
prepare_reads_nothing (prepare.PathTwice path) h = h
prepare_reads_nothing prepare.Empty h = h
prepare_reads_nothing (prepare.NoSuchSpec id) h = h
prepare_reads_nothing (prepare.WrongTuple path) h = h
prepare_reads_nothing prepare.SequenceEnd h = h
prepare_reads_nothing (prepare.BaseBad path) h = h
prepare_reads_nothing (prepare.BadFile path) h = h
prepare_reads_nothing prepare.TooManyRows h = h
prepare_reads_nothing prepare.OutOfOrder h = h

-- a refusal of putting is one of the commit
pub putting_refuses : (e : RunFault) → IsOfPutting e → MayRefuseACommit e
putting_refuses run.Write of = tt
putting_refuses (run.Conflict path) of = tt
putting_refuses run.Memory of = tt
putting_refuses (run.Absent path) of = absurd of
putting_refuses (run.Device path) of = absurd of
putting_refuses (run.Metadata m) of = absurd of
putting_refuses (run.Change m) of = absurd of
putting_refuses (run.Prepare m) of = absurd of
putting_refuses run.Input of = absurd of
putting_refuses (run.Words t) of = absurd of
putting_refuses (run.Bundle n) of = absurd of
putting_refuses (run.List m) of = absurd of
putting_refuses (run.Scan m) of = absurd of
putting_refuses (run.Finish m) of = absurd of
putting_refuses (run.Filter m) of = absurd of
putting_refuses (run.Drill m) of = absurd of
putting_refuses (run.Locate m) of = absurd of
putting_refuses (run.State path flaw) of = absurd of
putting_refuses (run.Lineage m) of = absurd of
putting_refuses run.Workers of = absurd of

-- a refusal of preparing ends the commit
pub prepare_refuses : (read : Result Commitment RunFault) (f : List ℕ → Type 0) (out : List ℕ)
    (files files' : Option (List File)) (store sink : Type 0) (e : RunFault) → IsOfPreparing e → MayEnd read f ⊥ e
    → MayEndCommit read f out files files' store sink e
prepare_refuses read f out files files' store sink (run.Absent path) of h = h
prepare_refuses read f out files files' store sink (run.Device path) of h = h
prepare_refuses read f out files files' store sink run.Memory of h = tt
prepare_refuses read f out files files' store sink (run.Metadata m) of h = h
prepare_refuses read f out files files' store sink (run.Change m) of h = h
prepare_refuses read f out files files' store sink (run.Prepare m) of h = h
prepare_refuses read f out files files' store sink run.Write of h = absurd of
prepare_refuses read f out files files' store sink run.Input of h = absurd of
prepare_refuses read f out files files' store sink (run.Words t) of h = absurd of
prepare_refuses read f out files files' store sink (run.Bundle n) of h = absurd of
prepare_refuses read f out files files' store sink (run.List m) of h = absurd of
prepare_refuses read f out files files' store sink (run.Scan m) of h = absurd of
prepare_refuses read f out files files' store sink (run.Finish m) of h = absurd of
prepare_refuses read f out files files' store sink (run.Filter m) of h = absurd of
prepare_refuses read f out files files' store sink (run.Conflict path) of h = absurd of
prepare_refuses read f out files files' store sink (run.Drill m) of h = absurd of
prepare_refuses read f out files files' store sink (run.Locate m) of h = absurd of
prepare_refuses read f out files files' store sink (run.State path flaw) of h = absurd of
prepare_refuses read f out files files' store sink (run.Lineage m) of h = absurd of
prepare_refuses read f out files files' store sink run.Workers of h = absurd of

-- what was not put ends it too
pub put_refuses : (read : Result Commitment RunFault) (f : List ℕ → Type 0) (out : List ℕ)
    (files files' : Option (List File)) (store sink : Type 0) (e : RunFault) (c : Commitment) → read ≡ Ok c
    → MayNotPut c out files files' store e → MayEndCommit read f out files files' store sink e
put_refuses read f out files files' store sink run.Write c is h = (c, is, inl h)
put_refuses read f out files files' store sink (run.Conflict path) c is h = (c, is, h)
put_refuses read f out files files' store sink run.Memory c is h = tt
put_refuses read f out files files' store sink run.Input c is h = absurd h
put_refuses read f out files files' store sink (run.Words t) c is h = absurd h
put_refuses read f out files files' store sink (run.Bundle n) c is h = absurd h
put_refuses read f out files files' store sink (run.Absent path) c is h = absurd h
put_refuses read f out files files' store sink (run.Device path) c is h = absurd h
put_refuses read f out files files' store sink (run.List m) c is h = absurd h
put_refuses read f out files files' store sink (run.Scan m) c is h = absurd h
put_refuses read f out files files' store sink (run.Finish m) c is h = absurd h
put_refuses read f out files files' store sink (run.Filter m) c is h = absurd h
put_refuses read f out files files' store sink (run.Metadata m) c is h = absurd h
put_refuses read f out files files' store sink (run.Change m) c is h = absurd h
put_refuses read f out files files' store sink (run.Prepare m) c is h = absurd h
put_refuses read f out files files' store sink (run.Drill m) c is h = absurd h
put_refuses read f out files files' store sink (run.Locate m) c is h = absurd h
put_refuses read f out files files' store sink (run.State path flaw) c is h = absurd h
put_refuses read f out files files' store sink (run.Lineage m) c is h = absurd h
put_refuses read f out files files' store sink run.Workers c is h = absurd h
