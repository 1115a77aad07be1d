-- The two plans of which the changes are told, what is told of them, and why either may end the run.
use Rattle.std.proofs.Common.{◌≡◌, ◌≢◌, ◌⊎◌, inr, ℕ, ◌<◌, ◌≤◌, List, [], ◌∷◌, ◌++◌, append_assoc, refl, sym, subst}
use Rattle.std.proofs.Common.{◌∙◌}
use Rattle.std.specs.Prelude.{Result, Ok, Err}
use Rattle.contract_words.specs.Outcome.{◌>>=◌}
use Rattle.ice_desk.specs.Wanted.{paths_of}
use Rattle.ice_desk.specs.Worlds.{EndsAt}
use Rattle.ice_manifest_reading.specs.declared.row.Row.{Row}
use Rattle.ice_state.specs.Contents.{HasEach, World}
use Rattle.ice_state.specs.Lines.{OwnedLine}
use Rattle.icescan_changes.specs.Answers.{both_reads, changes_at, changes_between, changes_in, changes_reads_at}
use Rattle.icescan_changes.specs.Answers.{changes_reads_behind, changes_told, manifests_of, manifests_of_both, plan_of}
use Rattle.icescan_changes.specs.Answers.{reads_behind_lists}
use Rattle.icescan_changes.specs.Lineage.{IsOfLineage, lineage_of}
use Rattle.icescan_forms.specs.declared.format.Format.{Format}
use Rattle.icescan_requests.specs.ListPlans.{wanted_of}
use Rattle.icescan_requests.specs.Plans.{list_of, manifests, rows_plan, scan_in, selected_rows}
use Rattle.icescan_requests.specs.Selections.{selected}
use Rattle.icescan_requests.specs.declared.selected_rows.SelectedRows.{SelectedRows}
use Rattle.icescan_shared_manifests.proofs.Selecting.{behind_list, ends_first}
use Rattle.icescan_shared_manifests.specs.Both.{both_lists, both_rows}
use Rattle.icescan_shared_manifests.specs.declared.both_rows.BothRows.{BothRows}
use Rattle.icescan_text.specs.Reads.{MayEnd, all_present, file_in}
use Rattle.icescan_text.specs.declared.fault.RunFault.{RunFault}
use Rattle.icescan_text.specs.declared.fault.RunFault.TheVariants as run
use Rattle.icescan_text.specs.declared.request.ChangesRequest.{ChangesRequest}
use Rattle.icescan_text.proofs.Steps.{fails_later, first_ends, has_each, more_reads, only_first, step, then_ends}
use Rattle.icescan_text.proofs.Enough.{enough, not_enough}

-- ---- what is read before

module _ (world : World) (f : List ℕ → Type 0) (rest : List (List ℕ)) (p : List ℕ) (ends : EndsAt world f rest p) where
  behind_rows : (rows : List Row) → HasEach world rows → EndsAt world f (paths_of rows ++ rest) p
  behind_rows [] h = ends
  behind_rows (row ∷ rows) h = inr (h.0, behind_rows rows h.1)

  -- where rows have a plan, their manifests were there
  behind_plan : (s : SelectedRows) (plan : List OwnedLine) → plan_of world s ≡ Ok plan
      → EndsAt world f (manifests_of s ++ rest) p
  unfolding rows_plan manifests
  behind_plan s plan h =
      let scan = step (scan_in s.specs s.filter.parts s.rows) _ plan h in
      let there = step (all_present world scan.0.wanted) _ plan scan.2 in
      subst (λ found. EndsAt world f (wanted_of found ++ rest) p) (sym scan.1)
      (behind_rows scan.0.wanted (has_each world scan.0.wanted there.1))

-- where the rows of both lists were selected, both lists were there
behind_lists : (world : World) (f : List ℕ → Type 0) (rest : List (List ℕ)) (p : List ℕ) → EndsAt world f rest p
    → (metadata : List ℕ) (request : ChangesRequest) (both : BothRows) → both_rows world metadata request ≡ Ok both
    → EndsAt world f (both_lists metadata request ++ rest) p
unfolding both_rows
behind_lists world f rest p ends metadata request both h =
    let earlier = step (selected_rows world metadata request.earlier) _ both h in
    let later = step (selected_rows world metadata request.later) _ both earlier.2 in
    let last = list_of (selected metadata request.later) in
    subst (λ paths. EndsAt world f paths p)
    (sym (append_assoc (list_of (selected metadata request.earlier)) last rest))
    (behind_list world f (last ++ rest) p (behind_list world f rest p ends metadata request.later later.0 later.1)
    metadata request.earlier earlier.0 earlier.1)

-- ---- a lineage

pub lineage_ends : {A : Type 0} (read : Result A RunFault) (w : Type 0) (e : RunFault) → IsOfLineage e
    → (e ≢ run.Memory → read ≡ Err e) → MayEnd read (λ _. ⊥) w e
lineage_ends read w (run.Metadata f) is h = h (λ m. cc)
lineage_ends read w (run.Lineage f) is h = h (λ m. cc)
lineage_ends read w run.Memory is h = tt
lineage_ends read w (run.Words t) is h = absurd is
lineage_ends read w run.Input is h = absurd is
lineage_ends read w (run.Bundle n) is h = absurd is
lineage_ends read w (run.Absent path) is h = absurd is
lineage_ends read w (run.Device path) is h = absurd is
lineage_ends read w (run.List f) is h = absurd is
lineage_ends read w (run.Scan f) is h = absurd is
lineage_ends read w (run.Finish f) is h = absurd is
lineage_ends read w (run.Filter f) is h = absurd is
lineage_ends read w (run.Drill f) is h = absurd is
lineage_ends read w (run.Locate f) is h = absurd is
lineage_ends read w (run.State path flaw) is h = absurd is
lineage_ends read w (run.Change f) is h = absurd is
lineage_ends read w (run.Prepare f) is h = absurd is
lineage_ends read w (run.Conflict path) is h = absurd is
lineage_ends read w run.Workers is h = absurd is
lineage_ends read w run.Write is h = absurd is

-- ---- two plans

module _ (f : List ℕ → Type 0) (form : Format) (world : World) (both : BothRows) where
  abbrev stops_between : List ℕ → Type 0
  stops_between = EndsAt world f (manifests_of_both both)

  pub no_earlier : (e : RunFault)
      → MayEnd (plan_of world both.earlier) (EndsAt world f (manifests_of both.earlier)) ⊥ e
      → MayEnd (changes_between form world both) stops_between ⊥ e
  unfolding changes_between
  no_earlier e h =
      first_ends stops_between ⊥ (EndsAt world f (manifests_of both.earlier)) (plan_of world both.earlier) _ e
      (λ p m. ends_first world f (manifests_of both.earlier) (manifests_of both.later) p m) h

  module _ (earlier : List OwnedLine) (was : plan_of world both.earlier ≡ Ok earlier) where
    pub no_later : (e : RunFault)
        → MayEnd (plan_of world both.later) (EndsAt world f (manifests_of both.later)) ⊥ e
        → MayEnd (changes_between form world both) stops_between ⊥ e
    unfolding changes_between
    no_later e h =
        then_ends stops_between ⊥ (plan_of world both.earlier) _ earlier e was
        (first_ends stops_between ⊥ (EndsAt world f (manifests_of both.later)) (plan_of world both.later) _ e
        (λ p m. behind_plan world f (manifests_of both.later) p m both.earlier earlier was) h)

    pub changes_there : (later : List OwnedLine) → plan_of world both.later ≡ Ok later
        → changes_between form world both ≡ Ok (changes_told form earlier later)
    unfolding changes_between
    changes_there later is = rw (was, is) refl

-- ---- the rows of two lists

module _ (f : List ℕ → Type 0) (form : Format) (world : World) (metadata : List ℕ) (request : ChangesRequest) where
  abbrev stops : List ℕ → Type 0
  stops = EndsAt world f (both_reads world metadata request)

  pub no_lineage : (e : RunFault) → IsOfLineage e → (e ≢ run.Memory → lineage_of metadata request ≡ Err e)
      → MayEnd (changes_in form world metadata request) stops ⊥ e
  unfolding changes_in
  no_lineage e is h =
      first_ends stops ⊥ (λ _. ⊥) (lineage_of metadata request) _ e (λ p m. absurd m)
      (lineage_ends (lineage_of metadata request) ⊥ e is h)

  module _ (follows : lineage_of metadata request ≡ Ok tt) where
    behind_lineage : changes_in form world metadata request
        ≡ (both_rows world metadata request >>= λ both. changes_between form world both)
    unfolding changes_in
    behind_lineage = rw follows refl

    pub no_lists : (e : RunFault)
        → MayEnd (both_rows world metadata request) (EndsAt world f (both_lists metadata request)) ⊥ e
        → MayEnd (changes_in form world metadata request) stops ⊥ e
    no_lists e h = subst (λ x. MayEnd x stops ⊥ e) (sym behind_lineage)
        (first_ends stops ⊥ (EndsAt world f (both_lists metadata request)) (both_rows world metadata request) _ e
        (λ p m. ends_first world f (both_lists metadata request)
        (reads_behind_lists (both_rows world metadata request)) p m) h)

    module _ (both : BothRows) (has : both_rows world metadata request ≡ Ok both) where
      pub told_of_both : changes_in form world metadata request ≡ changes_between form world both
      told_of_both = behind_lineage ∙ rw has refl

      reads_of_both : (p : List ℕ) → EndsAt world f (manifests_of_both both) p → stops p
      reads_of_both p m =
          subst (λ found. EndsAt world f (both_lists metadata request ++ reads_behind_lists found) p) (sym has)
          (behind_lists world f (manifests_of_both both) p m metadata request both has)

      pub ends_of_both : (e : RunFault)
          → MayEnd (changes_between form world both) (EndsAt world f (manifests_of_both both)) ⊥ e
          → MayEnd (changes_in form world metadata request) stops ⊥ e
      ends_of_both e h = subst (λ x. MayEnd x stops ⊥ e) (sym told_of_both)
          (more_reads (changes_between form world both) (EndsAt world f (manifests_of_both both)) stops ⊥ e
          reads_of_both h)

-- ---- the metadata in a file

module _ (f : List ℕ → Type 0) (form : Format) (world : World) (path : List ℕ) (request : ChangesRequest)
    (workers : ℕ) where
  abbrev at_reads : List ℕ → Type 0
  at_reads = EndsAt world f (changes_reads_at world path request)

  pub no_workers : (w : Type 0) (e : RunFault) → (e ≡ run.Workers) × ((workers ≡ 0) ⊎ (64 < workers))
      → MayEnd (changes_at form world path request workers) at_reads w e
  unfolding changes_at
  no_workers w e h = subst (λ x. MayEnd (changes_at form world path request workers) at_reads w x) (sym h.0)
      (not_enough workers _ h.1)

  module _ (some : 0 < workers) (few : workers ≤ 64) where
    told_in : changes_at form world path request workers
        ≡ (file_in world path >>= λ metadata. changes_in form world metadata request)
    unfolding changes_at
    told_in = enough workers _ some few

    pub no_metadata : (w : Type 0) (e : RunFault) → MayEnd (file_in world path) (EndsAt world f (path ∷ [])) ⊥ e
        → MayEnd (changes_at form world path request workers) at_reads w e
    unfolding changes_reads_at
    no_metadata w e h = subst (λ x. MayEnd x at_reads w e) (sym told_in)
        (first_ends at_reads w (EndsAt world f (path ∷ [])) (file_in world path) _ e
        (λ p m. only_first world f path (changes_reads_behind world request (file_in world path)) p m) h)

    module _ (metadata : List ℕ) (has : file_in world path ≡ Ok metadata) where
      pub told_behind : changes_at form world path request workers ≡ changes_in form world metadata request
      told_behind = told_in ∙ rw has refl

      reads_of_metadata : (p : List ℕ) → EndsAt world f (both_reads world metadata request) p → at_reads p
      unfolding changes_reads_at
      reads_of_metadata p h =
          subst (λ found. EndsAt world f (path ∷ changes_reads_behind world request found) p) (sym has)
          (fails_later world f path metadata (both_reads world metadata request) p has h)

      pub ends_behind : (w : Type 0) (e : RunFault)
          → MayEnd (changes_in form world metadata request)
          (EndsAt world f (both_reads world metadata request)) w e
          → MayEnd (changes_at form world path request workers) at_reads w e
      ends_behind w e h = subst (λ x. MayEnd x at_reads w e) (sym told_behind)
          (more_reads (changes_in form world metadata request)
          (EndsAt world f (both_reads world metadata request)) at_reads w e reads_of_metadata h)
