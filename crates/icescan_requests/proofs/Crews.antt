-- The plan by workers: how many manifests are wanted at most, and why the plan may end the run.
use Rattle.std.proofs.Common.{◌≡◌, ◌≢◌, ℕ, suc, ◌≤◌, true, false, cond, List, [], ◌∷◌, filter}
use Rattle.std.proofs.Common.{length, arith, refl, sym, ap, subst, ◌∙◌}
use Rattle.std.specs.Prelude.{Ok, Err}
use Rattle.std.proofs.lemmas.List.Sums.{count_by-le-length, length-filter}
use Rattle.contract_words.specs.Sorting.{put}
use Rattle.ice_desk.specs.declared.fault.PlanFault.{PlanFault}
use Rattle.ice_desk.specs.declared.fault.PlanFault.TheVariants as planned
use Rattle.ice_desk.specs.declared.fault.WantedFault.{WantedFault}
use Rattle.ice_desk.specs.declared.fault.WantedFault.TheVariants as wanted
use Rattle.ice_desk.specs.Plans.{GivesPlan, IfFinished, MayStopPlan}
use Rattle.ice_desk.specs.Wanted.{MayStop, paths_of}
use Rattle.ice_desk.specs.Worlds.{EndsAt}
use Rattle.ice_filter.specs.declared.bound.BoundPredicate.{BoundPredicate}
use Rattle.ice_filter.specs.declared.parts.Part.{Part}
use Rattle.ice_manifest_reading.specs.declared.row.Row.{Row}
use Rattle.ice_meta.specs.declared.spec.Spec.{Spec}
use Rattle.ice_state.specs.Contents.{HasEach, World}
use Rattle.ice_state.specs.Lines.{OwnedLine}
use Rattle.ice_state.specs.Pruning.{pruner_of}
use Rattle.ice_state.specs.Scans.{Scanned, by_row_path, row_before, scan_of}
use Rattle.ice_state.proofs.Scans.{scan_made}
use Rattle.icescan_text.specs.declared.fault.RunFault.TheVariants as run
use Rattle.icescan_text.specs.Faults.{of_plan, of_wanted}
use Rattle.icescan_text.specs.Reads.{MayEnd}
use Rattle.icescan_requests.specs.Plans.{manifests, over_wanted_rows, rows_plan}
use Rattle.icescan_requests.proofs.Plans.{finish_is_no_write, no_plan, not_taken}
use Rattle.icescan_text.proofs.Steps.{each_present, untaken_all}

-- ---- how many manifests

length_put : (x : Row) (ys : List Row) → length (put row_before x ys) ≡ suc (length ys)
length_put x [] = refl
length_put x (y ∷ ys) = elim (row_before y x) as
    (λ v. length (cond v (y ∷ put row_before x ys) (x ∷ y ∷ ys)) ≡ suc (suc (length ys)))
    [ true ↦ ap suc (length_put x ys) | false ↦ refl ]

length_by_path : (rows : List Row) → length (by_row_path rows) ≡ length rows
length_by_path [] = refl
length_by_path (row ∷ rows) = length_put row (by_row_path rows) ∙ ap suc (length_by_path rows)

-- no more manifests are wanted than there are rows
pub few_wanted : (rows : List Row) (specs : List Spec) (parts : List (Part BoundPredicate)) (scan : Scanned)
    → scan_of rows specs parts ≡ Ok scan → length rows ≤ 65536 → length scan.wanted ≤ 65536
few_wanted rows specs parts scan is few =
    let wants = (pruner_of parts specs).wants in
    let same : length (filter wants (by_row_path rows))
    ≡ length scan.wanted = ap (λ (s : Scanned). length s.wanted) (scan_made rows specs parts scan is).1 in
    omega (
      arith,
      same,
      length-filter wants (by_row_path rows),
      count_by-le-length wants (by_row_path rows),
      length_by_path rows,
      few,
    )

-- ---- why the plan ends

pub plan_is_no_write : (e : PlanFault) → of_plan e ≢ run.Write
plan_is_no_write (planned.Finish fault) h = finish_is_no_write fault h
plan_is_no_write (planned.Absent path) h = absurd cc
plan_is_no_write (planned.Device path) h = absurd cc
plan_is_no_write planned.Memory h = absurd cc
plan_is_no_write planned.Workers h = absurd cc

module _ (f : List ℕ → Type 0) (w : Type 0) (world : World) (specs : List Spec) (filter : List (Part BoundPredicate))
    (rows : List Row) (scan : Scanned) (is : scan_of rows specs filter ≡ Ok scan) where
  untaken : (e : WantedFault) → MayStop world f (paths_of scan.wanted) e
      → MayEnd (rows_plan over_wanted_rows world specs filter rows) (EndsAt world f (manifests specs filter rows)) w
      (of_wanted e)
  untaken e h = not_taken f w world specs filter rows scan is e
      (subst (λ rows. MayStop world f (paths_of rows) e) (sym (untaken_all scan.wanted)) h)

  pub not_planned : (e : PlanFault) → e ≢ planned.Workers → MayStopPlan world f (paths_of scan.wanted) e
      → IfFinished {X = List OwnedLine} (Err e) (HasEach world scan.wanted)
      → GivesPlan {X = List OwnedLine} (λ lines. lines) (Err e) (over_wanted_rows world specs filter rows scan)
      → MayEnd (rows_plan over_wanted_rows world specs filter rows) (EndsAt world f (manifests specs filter rows)) w
      (of_plan e)
  not_planned (planned.Finish fault) some stops each gives = no_plan f w world specs filter rows scan is
      (each_present world scan.wanted each) fault (λ m. gives)
  not_planned (planned.Absent path) some stops each gives = untaken (wanted.Absent path) stops
  not_planned (planned.Device path) some stops each gives = untaken (wanted.Device path) stops
  not_planned planned.Memory some stops each gives = tt
  not_planned planned.Workers some stops each gives = absurd (some refl)
