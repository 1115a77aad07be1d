-- The steps of an explanation, what it tells, and why each step may end it.
use Rattle.std.proofs.Common.{◌≡◌, ◌⊎◌, inl, inr, ℕ, ◌<◌, ◌≤◌, List, [], ◌∷◌, refl, sym, subst, ◌∙◌}
use Rattle.std.specs.Prelude.{Result, Ok}
use Rattle.contract_words.specs.Outcome.{◌>>=◌}
use Rattle.ice_desk.specs.Worlds.{EndsAt}
use Rattle.icescan_explain.specs.Asking.{ice_filter_tests}
use Rattle.icescan_explain.specs.Columns.{columns_in}
use Rattle.icescan_explain.specs.Explanations.{explained, explained_at, rows_explained}
use Rattle.icescan_explain.specs.RowsTold.{rows_told}
use Rattle.icescan_explain.specs.declared.manifests.Explanation.{Explanation}
use Rattle.icescan_requests.specs.Plans.{list_of, manifests, over_wanted_rows, reads, reads_at, reads_behind}
use Rattle.icescan_requests.specs.Plans.{rows_plan, selected_rows}
use Rattle.icescan_requests.specs.Selections.{selected}
use Rattle.icescan_requests.specs.declared.selected_rows.SelectedRows.{SelectedRows}
use Rattle.icescan_requests.proofs.Plans.{are_found, reads_list, reads_selected}
use Rattle.ice_state.specs.Contents.{World}
use Rattle.ice_state.specs.Lines.{OwnedLine}
use Rattle.ice_state.specs.Scans.{by_row_path}
use Rattle.icescan_text.specs.Reads.{MayEnd, file_in, rows_at}
use Rattle.icescan_text.specs.declared.fault.RunFault.{RunFault}
use Rattle.icescan_text.specs.declared.fault.RunFault.TheVariants as run
use Rattle.icescan_text.specs.declared.request.Request.{Request}
use Rattle.icescan_text.proofs.Steps.{fails_later, first_ends, more_reads, only_first, two_end}
use Rattle.icescan_text.proofs.Enough.{enough, not_enough}

-- an explanation of selected rows by its plan
abbrev explains : World → Request → SelectedRows → List OwnedLine → Explanation
explains world request found plan = record {
  plan = plan;
  verdicts = rows_told (ice_filter_tests found.specs found.filter.parts (columns_in request.filter)) world
      (by_row_path found.rows);
}

module _ (f : List ℕ → Type 0) (world : World) (metadata : List ℕ) (request : Request) where
  abbrev stops : List ℕ → Type 0
  stops = EndsAt world f (reads world metadata request)

  pub no_rows_found : (e : RunFault)
      → MayEnd (selected_rows world metadata request) (EndsAt world f (list_of (selected metadata request))) ⊥ e
      → MayEnd (explained world metadata request) stops ⊥ e
  unfolding explained selected_rows
  no_rows_found e h =
      two_end stops (selected metadata request) (λ s. rows_at world s.list)
      (λ s rows. record { rows = rows; specs = s.specs; filter = s.filter })
      (λ s rows. rows_explained world s request rows) e
      (more_reads (selected_rows world metadata request) (EndsAt world f (list_of (selected metadata request))) stops ⊥
      e (reads_list f world metadata request) h)

  module _ (found : SelectedRows) (has : selected_rows world metadata request ≡ Ok found) where
    abbrev planned : Result (List OwnedLine) RunFault
    planned = rows_plan over_wanted_rows world found.specs found.filter.parts found.rows

    explained_is : explained world metadata request ≡ (planned >>= λ plan. Ok (explains world request found plan))
    unfolding explained rows_explained
    explained_is =
        let there = are_found world metadata request found has in
        subst (λ (s : SelectedRows). explained world metadata request
        ≡ (rows_plan over_wanted_rows world s.specs s.filter.parts s.rows >>= λ plan. Ok
        (explains world request s plan)))
        there.is (rw (there.asked, there.listed) refl)

    pub no_plan : (e : RunFault)
        → MayEnd planned (EndsAt world f (manifests found.specs found.filter.parts found.rows)) ⊥ e
        → MayEnd (explained world metadata request) stops ⊥ e
    no_plan e h = subst (λ x. MayEnd x stops ⊥ e) (sym explained_is)
        (first_ends stops ⊥ (EndsAt world f (manifests found.specs found.filter.parts found.rows)) planned _ e
        (reads_selected f world metadata request found has) h)

    pub explained_there : (plan : List OwnedLine) → planned ≡ Ok plan
        → explained world metadata request ≡ Ok (explains world request found plan)
    explained_there plan h = explained_is ∙ rw h refl

-- ---- the metadata in a file

module _ (f : List ℕ → Type 0) (world : World) (path : List ℕ) (request : Request) (workers : ℕ) where
  abbrev at_reads : List ℕ → Type 0
  at_reads = EndsAt world f (reads_at world path request)

  pub no_workers : (w : Type 0) (e : RunFault) → (e ≡ run.Workers) × ((workers ≡ 0) ⊎ (64 < workers))
      → MayEnd (explained_at world path request workers) at_reads w e
  unfolding explained_at
  no_workers w e h = subst (λ x. MayEnd (explained_at world path request workers) at_reads w x) (sym h.0)
      (not_enough workers _ h.1)

  module _ (some : 0 < workers) (few : workers ≤ 64) where
    explained_in : explained_at world path request workers
        ≡ (file_in world path >>= λ metadata. explained world metadata request)
    unfolding explained_at
    explained_in = enough workers _ some few

    pub no_metadata : (w : Type 0) (e : RunFault) → MayEnd (file_in world path) (EndsAt world f (path ∷ [])) ⊥ e
        → MayEnd (explained_at world path request workers) at_reads w e
    unfolding reads_at
    no_metadata w e h = subst (λ x. MayEnd x at_reads w e) (sym explained_in)
        (first_ends at_reads w (EndsAt world f (path ∷ [])) (file_in world path) _ e
        (λ p m. only_first world f path (reads_behind world request (file_in world path)) p m) h)

    module _ (metadata : List ℕ) (has : file_in world path ≡ Ok metadata) where
      pub explained_behind : explained_at world path request workers ≡ explained world metadata request
      explained_behind = explained_in ∙ rw has refl

      reads_of_metadata : (p : List ℕ) → EndsAt world f (reads world metadata request) p → at_reads p
      unfolding reads_at
      reads_of_metadata p h =
          subst (λ found. EndsAt world f (path ∷ reads_behind world request found) p) (sym has)
          (fails_later world f path metadata (reads world metadata request) p has h)

      pub ends_behind : (w : Type 0) (e : RunFault)
          → MayEnd (explained world metadata request) (EndsAt world f (reads world metadata request)) w e
          → MayEnd (explained_at world path request workers) at_reads w e
      ends_behind w e h = subst (λ x. MayEnd x at_reads w e) (sym explained_behind)
          (more_reads (explained world metadata request) (EndsAt world f (reads world metadata request)) at_reads w e
          reads_of_metadata h)

-- the text can't be written
pub no_text : {A : Type 0} (r : List ℕ → Type 0) (w : Type 0) (read : Result A RunFault) (e : RunFault)
    → (e ≡ run.Memory) ⊎ (e ≡ run.Write) → (e ≡ run.Write → w) → MayEnd read r w e
no_text r w read e (inl is) h = subst (λ x. MayEnd read r w x) (sym is) tt
no_text r w read e (inr is) h = subst (λ x. MayEnd read r w x) (sym is) (h is)
