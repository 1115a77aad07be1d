use Rattle.std.proofs.Common.{◌≡◌, ◌⊎◌, inl, inr, ℕ, List, sym}
use Rattle.ice_filter.specs.declared.bound.BoundPredicate.{BoundPredicate}
use Rattle.ice_filter.specs.declared.parts.Part.{Part}
use Rattle.ice_meta.specs.declared.spec.Spec.{Spec}
use Rattle.ice_manifest_fields.specs.declared.fault.ManifestFault.{ManifestFault}
use Rattle.ice_manifest_reading.specs.declared.row.Row.{Row}
use Rattle.ice_state.specs.declared.fault.FinishFault.TheVariants as faults
use Rattle.ice_state.specs.Contents.{World}
use Rattle.ice_state.specs.Pruning.{pruner_of}
use Rattle.ice_state.specs.Scans.{by_row_path}
use Rattle.ice_state_laws.proofs.Snapshots.{over_kept, to_plan, from_plan, to_bad, from_least_bad, to_twice, from_twice}
use Rattle.ice_state_laws.proofs.Snapshots.{what_is_told}
use Rattle.ice_state_laws.proofs.plans.snapshot_plans.Goals as goal

pub returns : goal.returns
returns c =
    let over = λ (world : World) (specs : List Spec) (filter : List (Part BoundPredicate)) (rows : List Row).
    over_kept c.pruning.ensures.same_entries c.pruning.ensures.plans (pruner_of filter specs) world specs
    (by_row_path rows) (c.filtering.ensures.open_where_unpartitioned filter specs) in
    record {
      planned = λ world specs filter rows plan. (
        to_plan (pruner_of filter specs) world specs rows (over world specs filter rows) plan,
        from_plan (pruner_of filter specs) world specs rows (over world specs filter rows) plan,
      );
      bad = λ world specs filter rows path fault own. (
        to_bad (pruner_of filter specs) world specs rows (over world specs filter rows) path fault,
        from_least_bad (pruner_of filter specs) world specs rows (over world specs filter rows) own path fault,
      );
      twice = λ world specs filter rows path. (
        to_twice (pruner_of filter specs) world specs rows (over world specs filter rows) path,
        from_twice (pruner_of filter specs) world specs rows (over world specs filter rows) path,
      );
      nothing_else = λ world specs filter rows told h.
          elim (what_is_told (pruner_of filter specs) world specs rows (over world specs filter rows) told h) as
          (λ _. ((path : List ℕ) × (fault : ManifestFault) × (told ≡ faults.Bad path fault))
          ⊎ ((path : List ℕ) × (told ≡ faults.PathTwice path))) [
            | inl (row, its, d, w, b, e, least) ↦ inl (row.path, its, sym e)
            | inr (good, (path, e, s)) ↦ inr (path, e)
          ];
    }
