-- The outcome of all wanted rows is the plan of the snapshot.
use Rattle.std.proofs.Common.{◌≡◌, ℕ, List, [], ◌∷◌, refl, sym, ap, ◌∙◌, true, filter, length, replicate, Option, Some}
use Rattle.std.proofs.Common.{None, is_some, option_map, Ok, Err, subst}
use Rattle.std.specs.List.{flat_map, list_any}
use Rattle.ice_meta.specs.declared.spec.Spec.{Spec}
use Rattle.ice_manifest_reading.specs.declared.row.Row.{Row}
use Rattle.ice_state.specs.Contents.{Content, World, live_by, manifest_of, reading, reading_of, slots_of, content}
use Rattle.ice_state.specs.Contents.{every_row, HasEach}
use Rattle.ice_filter.specs.declared.bound.BoundPredicate.{BoundPredicate}
use Rattle.ice_filter.specs.declared.parts.Part.{Part}
use Rattle.ice_state.specs.Covering.{AreCovered, HasSoundSummaries}
use Rattle.ice_state.specs.Outcomes.{missing, missing_at, bad, bad_at, entries_in, kept_in, outcome_of, outcome}
use Rattle.ice_state.specs.Pruning.{Pruner, pruner_of, keeps, kept, IsOpen}
use Rattle.ice_state.specs.Scans.{Scanned, pruner, by_row_path, row_before, wanted_rows, IsScanOf}
use Rattle.ice_state.specs.Snapshots.{live, live_or_none, fault_or_none, bad_row, AreKeptWanted, plan_of_rows}
use Rattle.ice_state.specs.Snapshots.{plan_of_snapshot}
use Rattle.ice_state.specs.Specs.{by_id}
use Rattle.ice_state.proofs.Covered.{kept_wanted_of}
use Rattle.ice_state.proofs.Filters.{all_sorted}
use Rattle.ice_state.proofs.Pruned.{kept_wanted, pruned}
use Rattle.ice_state.proofs.Scans.{scan_is, same_pruner}
use Rattle.ice_state.proofs.Specs.{spec_of-by_id}

missing-slot : (scan : Scanned) (row : Row) (bytes : Option (List ℕ)) → is_some bytes ≡ true
    → missing_at row (option_map (reading_of scan row) bytes) ≡ []
missing-slot scan row None h = cc
missing-slot scan row (Some bytes) h = refl

bad-slot : (scan : Scanned) (row : Row) (bytes : Option (List ℕ))
    → bad_at row (option_map (reading_of scan row) bytes) ≡ fault_or_none row (option_map (manifest_of scan.specs row)
    bytes)
bad-slot scan row None = refl
bad-slot scan row (Some bytes) = elim (manifest_of scan.specs row bytes) as
    (λ m. bad_at row (Some (reading (pruner scan) m)) ≡ fault_or_none row (Some m)) [
      | Ok found ↦ refl
      | Err fault ↦ refl
    ]

kept-slot : (scan : Scanned) (row : Row) (bytes : Option (List ℕ))
    → entries_in (option_map (reading_of scan row) bytes) ≡ kept (pruner scan)
    (live_or_none (option_map (manifest_of scan.specs row) bytes))
kept-slot scan row None = refl
kept-slot scan row (Some bytes) = elim (manifest_of scan.specs row bytes) as
    (λ m. entries_in (Some (reading (pruner scan) m)) ≡ kept (pruner scan) (live_or_none (Some m)))
    [ Ok found ↦ refl | Err fault ↦ refl ]

-- of every row: none is missing, and the bad ones and the kept entries are those of the rows
missing-every : (world : World) (scan : Scanned) (rows : List Row) → HasEach world rows
    → missing rows (slots_of world scan (replicate (length rows) true) rows) ≡ []
missing-every world scan [] has = refl
missing-every world scan (row ∷ rows) has = rw (
  missing-slot scan row (world row.path) has.0,
  missing-every world scan
      rows has.1,
) refl

bad-every : (world : World) (scan : Scanned) (rows : List Row)
    → bad rows (slots_of world scan (replicate (length rows) true) rows) ≡ flat_map (bad_row world scan.specs) rows
bad-every world scan [] = refl
bad-every world scan (row ∷ rows) = rw (bad-slot scan row (world row.path), bad-every world scan rows) refl

kept-every : (world : World) (scan : Scanned) (rows : List Row)
    → kept_in (slots_of world scan (replicate (length rows) true) rows) ≡ flat_map (λ (row : Row). kept (pruner scan)
    (live world scan.specs row)) rows
kept-every world scan [] = refl
kept-every world scan (row ∷ rows) = rw (kept-slot scan row (world row.path), kept-every world scan rows) refl

-- over rows in their order
of_rows : (world : World) (scan : Scanned) (rows : List Row) → IsOpen scan.specs (pruner scan)
    → AreKeptWanted (pruner scan) (live world scan.specs) rows → HasEach world (wanted_rows (pruner scan) rows) →
    outcome_of (wanted_rows (pruner scan) rows)
    (slots_of world scan (replicate (length (wanted_rows (pruner scan) rows)) true) (wanted_rows (pruner scan)
    rows)) ≡ plan_of_rows (pruner scan) world scan.specs rows
of_rows world scan rows opens covered has =
    let w = wanted_rows (pruner scan) rows in
    rw (
      missing-every world scan w has,
      bad-every world scan w,
      kept-every world scan w,
      kept_wanted (pruner scan)
          (live world scan.specs) rows covered,
      pruned (pruner scan) world scan.specs rows opens covered,
    ) refl

-- by the sorted specs as by those that were handed in
manifest-by_id : (specs : List Spec) (row : Row) (bytes : List ℕ)
    → manifest_of (by_id specs) row bytes ≡ manifest_of specs row bytes
manifest-by_id specs row bytes = ap (λ o. live_by o row bytes) (spec_of-by_id specs row.spec_id)

live-by_id : (world : World) (specs : List Spec) (row : Row) → live world (by_id specs) row ≡ live world specs row
live-by_id world specs row =
    elim (world row.path) as (λ o. live_or_none (option_map (manifest_of (by_id specs) row) o) ≡ live_or_none
    (option_map (manifest_of specs row) o)) [
      | None ↦ refl
      | Some bytes ↦ ap (λ m. live_or_none (Some m)) (manifest-by_id specs row bytes)
    ]

bad-by_id : (world : World) (specs : List Spec) (row : Row) → bad_row world (by_id specs) row ≡ bad_row world specs row
bad-by_id world specs row =
    elim (world row.path) as (λ o. fault_or_none row (option_map (manifest_of (by_id specs) row) o) ≡ fault_or_none row
    (option_map (manifest_of specs row) o)) [
      | None ↦ refl
      | Some bytes ↦ ap (λ m. fault_or_none row (Some m)) (manifest-by_id specs row bytes)
    ]

flat_map-same : {X Y : Type 0} (f g : X → List Y) → ((x : X) → f x ≡ g x) → (xs : List X)
    → flat_map f xs ≡ flat_map g xs
flat_map-same f g same [] = refl
flat_map-same f g same (x ∷ xs) = rw (same x, flat_map-same f g same xs) refl

plan-by_id : (p : Pruner) (world : World) (specs : List Spec) (rows : List Row)
    → plan_of_rows p world (by_id specs) rows ≡ plan_of_rows p world specs rows
plan-by_id p world specs rows =
    rw (
      flat_map-same (live world (by_id specs)) (live world specs) (live-by_id world specs) rows,
      flat_map-same
          (bad_row world (by_id specs)) (bad_row world specs) (bad-by_id world specs) (filter p.wants rows),
    ) refl

kept_wanted-by_id : (p : Pruner) (world : World) (specs : List Spec) (rows : List Row)
    → AreKeptWanted p (live world specs) rows → AreKeptWanted p (live world (by_id specs)) rows
kept_wanted-by_id p world specs [] all = tt
kept_wanted-by_id p world specs (row ∷ rows) all = (
  λ h. all.0 (ap (λ es. list_any (keeps p) es) (sym (live-by_id world specs row)) ∙ h),
  kept_wanted-by_id p world
      specs rows all.1,
)

-- what the law of filters says
module _ (opens : (parts : List (Part BoundPredicate)) (specs : List Spec) → IsOpen specs (pruner_of parts specs))
    (sound : (parts : List (Part BoundPredicate)) (specs : List Spec) → HasSoundSummaries specs (pruner_of parts specs))
  where
    pub of_snapshot : (world : World) (scan : Scanned) (rows : List Row) (specs : List Spec) (c : Content)
        → IsScanOf rows specs scan → AreCovered world specs rows → HasEach world scan.wanted
        → c ≡ content world scan (every_row scan) →
        outcome scan c ≡ plan_of_snapshot (pruner_of scan.filter specs) world specs rows
    of_snapshot world scan rows specs c is covered has taken =
        let p = pruner_of scan.filter specs in
        let own : pruner scan ≡ p = same_pruner rows specs scan is in
        let same = (scan_is rows specs scan is).1 in
        let ids : by_id specs ≡ scan.specs = ap (λ (s : Scanned). s.specs) same in
        let w : wanted_rows (pruner scan) (by_row_path rows) ≡ scan.wanted = ap (λ q. wanted_rows q (by_row_path rows))
        own ∙ ap (λ (s : Scanned). s.wanted) same in
        let wanted : AreKeptWanted p (live world specs) (by_row_path rows) =
        all_sorted row_before _ rows (kept_wanted_of p world specs rows (sound scan.filter specs) covered) in
        let kept' : AreKeptWanted p (live world scan.specs) (by_row_path rows) =
        subst (λ (ss : List Spec). AreKeptWanted p (live world ss) (by_row_path rows)) ids (kept_wanted-by_id p world
        specs (by_row_path rows) wanted) in
        let kept'' : AreKeptWanted (pruner scan) (live world scan.specs) (by_row_path rows) =
        subst (λ (q : Pruner). AreKeptWanted q (live world scan.specs) (by_row_path rows)) (sym own) kept' in
        ap (λ (s : Content). outcome_of scan.wanted s) taken
        ∙ ap (λ (ws : List Row). outcome_of ws (slots_of world scan (replicate (length ws) true) ws)) (sym w)
        ∙ of_rows world scan (by_row_path rows) (opens scan.filter scan.specs) kept'' (subst (HasEach world) (sym w)
        has)
        ∙ ap (λ (q : Pruner). plan_of_rows q world scan.specs (by_row_path rows)) own
        ∙ ap (λ (ss : List Spec). plan_of_rows p world ss (by_row_path rows)) (sym ids)
        ∙ plan-by_id p world specs (by_row_path rows)
