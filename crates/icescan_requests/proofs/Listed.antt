-- A list plan: why each of its steps may end the run, and that the plan of its wanted rows is that of the snapshot.
use Rattle.std.proofs.Common.{◌≡◌, ℕ, List, [], ◌∷◌, refl, sym, ap, subst, ◌∙◌}
use Rattle.std.specs.Prelude.{Result, Ok, Err}
use Rattle.std.specs.List.{AllByRecursion}
use Rattle.contract_words.specs.Outcome.{◌>>=◌}
use Rattle.ice_desk.specs.Worlds.{EndsAt}
use Rattle.ice_filter.specs.declared.bound.BoundPredicate.{BoundPredicate}
use Rattle.ice_filter.specs.declared.parts.Part.{Part}
use Rattle.ice_manifest_reading.specs.declared.row.Row.{Row}
use Rattle.ice_meta.specs.declared.spec.Spec.{Spec}
use Rattle.ice_state.specs.declared.fault.ScanFault.{ScanFault}
use Rattle.ice_state.specs.Contents.{World}
use Rattle.ice_state.specs.Covering.{AreCovered, HasSoundSummaries}
use Rattle.ice_state.specs.Lines.{OwnedLine}
use Rattle.ice_state.specs.Pruning.{IsOpen, everything, pruner_of}
use Rattle.ice_state.specs.Scans.{Scanned, scan_of}
use Rattle.ice_state.specs.Snapshots.{plan_of_snapshot}
use Rattle.icescan_text.specs.declared.fault.RunFault.{RunFault}
use Rattle.icescan_text.specs.Faults.{of_finish, of_scan}
use Rattle.icescan_text.specs.Reads.{MayEnd, all_present, as_run, rows_at}
use Rattle.icescan_requests.specs.ListPlans.{list_answer, list_reads, list_scan, plan_in, scan_at, specs_of, wanted_of}
use Rattle.icescan_requests.specs.Plans.{manifests, over_all_rows, over_wanted_rows, rows_plan}
use Rattle.icescan_requests.proofs.Plans.{list_there, same_plan}
use Rattle.icescan_text.proofs.Steps.{fails_later, first_ends, more_reads, only_first}

-- specs without fields
pub are_without_fields : (rows : List Row) → AllByRecursion (λ spec. spec.fields ≡ []) (specs_of rows)
are_without_fields [] = tt
are_without_fields (row ∷ rows) = (refl, are_without_fields rows)

-- the plan of the rows of a list
abbrev listed : World → List Row → Result (List OwnedLine) RunFault
listed world rows = list_scan rows >>= λ scan. all_present world scan.wanted >>= λ _. plan_in world rows

module _ (opens : (parts : List (Part BoundPredicate)) (specs : List Spec) → IsOpen specs (pruner_of parts specs))
    (sound : (parts : List (Part BoundPredicate)) (specs : List Spec) → HasSoundSummaries specs (pruner_of parts specs))
    (covers : (world : World) (specs : List Spec) (rows : List Row) → AllByRecursion (λ spec. spec.fields ≡ []) specs
    → AreCovered world specs rows)
    (plans : (world : World) (rows : List Row) (specs : List Spec) (scan : Scanned) → scan_of rows specs [] ≡ Ok scan
    → plan_of_snapshot (pruner_of [] specs) world specs rows ≡ plan_of_snapshot everything world specs rows) where
  by_scan : (world : World) (rows : List Row) (found : Result Scanned ScanFault) → scan_of rows (specs_of rows) []
      ≡ found
      → (as_run of_scan found >>= λ s. all_present world s.wanted >>= λ _. as_run of_finish
      (over_all_rows world (specs_of rows) [] rows s))
      ≡ (as_run of_scan found >>= λ s. all_present world s.wanted >>= λ _. plan_in world rows)
  unfolding plan_in
  by_scan world rows (Err e) is = refl
  by_scan world rows (Ok s) is = ap (λ p. all_present world s.wanted >>= λ _. as_run of_finish p)
      (plans world rows (specs_of rows) s is)

  pub same_listed : (world : World) (rows : List Row) → rows_plan over_wanted_rows world (specs_of rows) [] rows
      ≡ listed world rows
  unfolding rows_plan list_scan
  same_listed world rows =
      same_plan opens sound world (specs_of rows) [] rows (covers world (specs_of rows) rows (are_without_fields rows))
      ∙ by_scan world rows (scan_of rows (specs_of rows) []) refl

module _ (f : List ℕ → Type 0) (world : World) (path : List ℕ) where
  pub no_listed_rows : (e : RunFault) → MayEnd (rows_at world path) (EndsAt world f (path ∷ [])) ⊥ e
      → MayEnd (list_answer world path) (EndsAt world f (list_reads world path)) ⊥ e
  unfolding list_answer list_reads
  no_listed_rows e h =
      first_ends (EndsAt world f (list_reads world path)) ⊥ (EndsAt world f (path ∷ [])) (rows_at world path) _ e
      (λ p m. only_first world f path (wanted_of (scan_at world path)) p m) h

  module _ (rows : List Row) (has : rows_at world path ≡ Ok rows) where
    pub listed_there : list_answer world path ≡ listed world rows
    unfolding list_answer
    listed_there = rw has refl

    scan_there : scan_at world path ≡ list_scan rows
    unfolding scan_at
    scan_there = rw has refl

    listed_reads : (p : List ℕ) → EndsAt world f (manifests (specs_of rows) [] rows) p
        → EndsAt world f (list_reads world path) p
    unfolding list_reads manifests list_scan
    listed_reads p h =
        let bytes = list_there world path rows has in
        fails_later world f path bytes.0 (wanted_of (scan_at world path)) p bytes.1
        (subst (λ s. EndsAt world f (wanted_of s) p) (sym scan_there) h)

    pub no_listed_plan : rows_plan over_wanted_rows world (specs_of rows) [] rows ≡ listed world rows → (e : RunFault)
        → MayEnd (rows_plan over_wanted_rows world (specs_of rows) [] rows)
        (EndsAt world f (manifests (specs_of rows) [] rows)) ⊥ e
        → MayEnd (list_answer world path) (EndsAt world f (list_reads world path)) ⊥ e
    no_listed_plan same e h =
        subst (λ a. MayEnd a (EndsAt world f (list_reads world path)) ⊥ e) (same ∙ sym listed_there)
        (more_reads (rows_plan over_wanted_rows world (specs_of rows) [] rows)
        (EndsAt world f (manifests (specs_of rows) [] rows))
        (EndsAt world f (list_reads world path)) ⊥ e listed_reads h)
