-- With the filter that is always met nothing is left out.
use Rattle.std.proofs.Common.{◌≡◌, ◌==◌, List, [], ◌∷◌, refl, ap, Bool, true, false, not, ◌||◌, cond, length, filter}
use Rattle.std.proofs.Common.{Option, Some, None, is_none, Ok}
use Rattle.std.specs.List.{flat_map, AllByRecursion}
use Rattle.std.specs.Option.{IsSome, option_map}
use Rattle.ice_value.specs.declared.cell.Cell.{Cell}
use Rattle.ice_value.specs.declared.file_bounds.Summary.{Summary}
use Rattle.ice_value.specs.declared.file_content.FileContent.TheVariants.{Data}
use Rattle.ice_meta.specs.Partitioning.{is_unpartitioned}
use Rattle.ice_meta.specs.declared.spec.Spec.{Spec}
use Rattle.ice_project.specs.Tuples.{part_meets}
use Rattle.ice_manifest_reading.specs.declared.entry.Live.{Live}
use Rattle.ice_manifest_reading.specs.declared.row.Row.{Row}
use Rattle.ice_state.specs.Contents.{World}
use Rattle.ice_state.specs.Pruning.{by_projection, summaries_allow, pruner_of, everything, holds, keeps, SaysItsSpec}
use Rattle.ice_state.specs.Scans.{Scanned, by_row_path, without_spec, scan_of}
use Rattle.ice_state.specs.Snapshots.{live, plan_of_rows, plan_of_snapshot}
use Rattle.ice_state.specs.Specs.{spec_of}
use Rattle.ice_state.proofs.Filters.{append_all, all_implies, filter_all}
use Rattle.ice_state.proofs.OfSpecs.{live_says}
use Rattle.ice_state.proofs.Scans.{scan_made}

wants_by : (summaries : Option (List Summary)) (o : Option Spec) → IsSome o
    → by_projection [] (λ part. summaries_allow part summaries) o ≡ true
wants_by summaries None there = cc
wants_by None (Some spec) there = refl
wants_by (Some summaries) (Some spec) there = elim (length summaries == length spec.fields) as (λ b. cond b true true
    ≡ true) [ true ↦ refl | false ↦ refl ]

meets_by : (tuple : List Cell) (o : Option Spec) → IsSome o → by_projection [] (λ part. part_meets part tuple) o ≡ true
meets_by tuple None there = cc
meets_by tuple (Some spec) there = refl

pub wants_known : (specs : List Spec) (row : Row) → IsSome (spec_of specs row.spec_id)
    → (pruner_of [] specs).wants row ≡ true
wants_known specs row there = wants_by row.partitions (spec_of specs row.spec_id) there

pub keeps_known : (specs : List Spec) (l : Live) → IsSome (spec_of specs l.entry.spec_id)
    → keeps (pruner_of [] specs) l ≡ true
keeps_known specs l there =
    rw (meets_by l.entry.file.tuple (spec_of specs l.entry.spec_id) there) (elim (holds Data l.entry) as
    (λ b. (not b || true) ≡ true) [ true ↦ refl | false ↦ refl ])

known : (o : Option Spec) → is_none o ≡ false → IsSome o
known None h = cc
known (Some spec) h = refl

said : (o : Option Spec) (b : Bool) → option_map is_unpartitioned o ≡ Some b → IsSome o
said None b h = cc
said (Some spec) b h = refl

-- where no row lacks its spec, each is wanted
all_wanted : (specs : List Spec) (rows : List Row) → without_spec specs rows ≡ []
    → AllByRecursion (λ row. (pruner_of [] specs).wants row ≡ true) rows
all_wanted specs [] h = tt
all_wanted specs (row ∷ rows) h =
    let split : (b : Bool) → cond b (row ∷ without_spec specs rows) (without_spec specs rows) ≡ []
    → (b ≡ false) × (without_spec specs rows ≡ []) =
    λ b. elim b as (λ v. cond v (row ∷ without_spec specs rows) (without_spec specs rows) ≡ []
    → (v ≡ false) × (without_spec specs rows ≡ [])) [ true ↦ λ e. cc | false ↦ λ e. (refl, e) ] in
    let both = split (is_none (spec_of specs row.spec_id)) h in
    (wants_known specs row (known (spec_of specs row.spec_id) both.0), all_wanted specs rows both.1)

-- each live entry is kept
all_kept : (world : World) (specs : List Spec) (rows : List Row)
    → AllByRecursion (λ (l : Live). keeps (pruner_of [] specs) l ≡ true) (flat_map (live world specs) rows)
all_kept world specs [] = tt
all_kept world specs (row ∷ rows) =
    append_all (λ (l : Live). keeps (pruner_of [] specs) l ≡ true) (live world specs row) (flat_map (live world specs)
    rows)
    (all_implies (λ (l : Live). SaysItsSpec specs l.entry) (λ (l : Live). keeps (pruner_of [] specs) l ≡ true)
    (live world specs row) (λ l says. keeps_known specs l (said (spec_of specs l.entry.spec_id)
    l.entry.unpartitioned says)) (live_says world specs row))
    (all_kept world specs rows)

same_rows : (rows : List Row) → filter everything.wants rows ≡ rows
same_rows [] = refl
same_rows (row ∷ rows) = ap (λ rs. row ∷ rs) (same_rows rows)

same_live : (xs : List Live) → filter (keeps everything) xs ≡ xs
same_live [] = refl
same_live (x ∷ xs) =
    let yes : keeps everything x ≡ true = elim (holds Data x.entry) as (λ b. (not b || true) ≡ true)
    [ true ↦ refl | false ↦ refl ] in
    rw yes (ap (λ ls. x ∷ ls) (same_live xs))

same_plan : (world : World) (specs : List Spec) (rows : List Row) → without_spec specs rows ≡ []
    → plan_of_rows (pruner_of [] specs) world specs rows ≡ plan_of_rows everything world specs rows
same_plan world specs rows none =
    let found = flat_map (live world specs) rows in
    let by_filter : filter (keeps (pruner_of [] specs)) found ≡ found = filter_all (keeps (pruner_of [] specs)) found
    (all_kept world specs rows) in
    let by_filter' : filter (pruner_of [] specs).wants rows ≡ rows = filter_all (pruner_of [] specs).wants rows
    (all_wanted specs rows none) in
    rw (by_filter, by_filter', same_live found, same_rows rows) refl

pub plan_of_all : (world : World) (rows : List Row) (specs : List Spec) (scan : Scanned)
    → scan_of rows specs [] ≡ Ok scan → plan_of_snapshot (pruner_of [] specs) world specs rows ≡ plan_of_snapshot
    everything world specs rows
plan_of_all world rows specs scan h = same_plan world specs (by_row_path rows) (scan_made rows specs [] scan h).0
