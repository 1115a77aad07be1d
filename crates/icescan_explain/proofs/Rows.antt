-- Why explaining the rows of a list ends.
use Rattle.std.proofs.Common.{◌≡◌, ℕ, List, ap, sym, subst}
use Rattle.std.specs.Prelude.{Result, Ok, Err, IfOk}
use Rattle.ice_desk.specs.Wanted.{paths_of}
use Rattle.ice_desk.specs.Worlds.{EndsAt}
use Rattle.ice_filter.specs.declared.bound.BoundPredicate.{BoundPredicate}
use Rattle.ice_filter.specs.declared.parts.Part.{Part}
use Rattle.ice_manifest_reading.specs.declared.row.Row.{Row}
use Rattle.ice_meta.specs.declared.spec.Spec.{Spec}
use Rattle.icescan_requests.specs.ListPlans.{wanted_of}
use Rattle.icescan_requests.specs.Plans.{manifests, over_wanted_rows, rows_plan, scan_in}
use Rattle.ice_state.specs.Contents.{World}
use Rattle.ice_state.specs.Scans.{Scanned, scan_of}
use Rattle.icescan_text.specs.Faults.{of_scan}
use Rattle.icescan_text.specs.Reads.{MayEnd, all_present, as_run}
use Rattle.icescan_text.specs.declared.fault.RunFault.{RunFault}
use Rattle.icescan_text.proofs.Steps.{first_ends, then_ends}

module _ (f : List ℕ → Type 0) (world : World) (specs : List Spec) (filter : List (Part BoundPredicate))
    (rows : List Row)
    (scan : Scanned) (is : scan_of rows specs filter ≡ Ok scan) where
  scan_is : scan_in specs filter rows ≡ Ok scan
  scan_is = ap (as_run of_scan) is

  behind : (p : List ℕ) → EndsAt world f (paths_of scan.wanted) p → EndsAt world f (manifests specs filter rows) p
  unfolding manifests
  behind p h = subst (λ s. EndsAt world f (wanted_of s) p) (sym scan_is) h

  -- a wanted manifest can't be had
  pub no_manifest : (e : RunFault)
      → MayEnd (all_present world scan.wanted) (EndsAt world f (paths_of scan.wanted)) ⊥ e
      → MayEnd (rows_plan over_wanted_rows world specs filter rows) (EndsAt world f (manifests specs filter rows)) ⊥ e
  unfolding rows_plan
  no_manifest e h =
      then_ends (EndsAt world f (manifests specs filter rows)) ⊥ (scan_in specs filter rows) _ scan e scan_is
      (first_ends (EndsAt world f (manifests specs filter rows)) ⊥ (EndsAt world f (paths_of scan.wanted))
      (all_present world scan.wanted) _ e behind h)

-- both are so of a value
pub both_ok : {A E : Type 0} (r : Result A E) (P Q R : A → Type 0) → ((x : A) → P x → Q x → R x) → IfOk r P
    → IfOk r Q → IfOk r R
both_ok (Ok x) P Q R h p q = h x p q
both_ok (Err e) P Q R h p q = tt
