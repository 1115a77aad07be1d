-- A manifest and a file are told as kept just where a scan reads and keeps them.
use Rattle.std.proofs.Common.{◌≡◌, ℕ, Bool, true, false, not, ◌&&◌, ◌||◌, cond, List, Option, Some, refl, sym, ap, ◌∙◌}
use Rattle.ice_filter.specs.declared.bound.BoundPredicate.{BoundPredicate}
use Rattle.ice_filter.specs.declared.parts.Part.{Part}
use Rattle.ice_manifest_reading.specs.declared.entry.Live.{Live}
use Rattle.ice_manifest_reading.specs.declared.row.Row.{Row}
use Rattle.ice_meta.specs.declared.spec.Spec.{Spec}
use Rattle.ice_project.specs.Files.{file_may}
use Rattle.ice_project.specs.Projection.{projection}
use Rattle.ice_project.specs.Tuples.{part_meets}
use Rattle.ice_state.specs.Pruning.{by_projection, holds, keeps, pruner_of, summaries_allow}
use Rattle.ice_state.specs.Specs.{spec_of}
use Rattle.ice_value.specs.declared.file_content.FileContent.TheVariants.{Data}
use Rattle.icescan_explain.specs.Asking.{ice_filter_tests, spec_tests}
use Rattle.icescan_explain.specs.Fates.{file_fate, is_kept, row_fate}
use Rattle.icescan_explain.specs.declared.verdict.Fate.TheVariants.{Kept, ByPartition, ByBounds}

kept_row : (b : Bool) (f : Option (List ℕ)) → is_kept (cond b Kept (ByPartition f)) ≡ b
kept_row true f = refl
kept_row false f = refl

kept_file : (m d b : Bool) (f g : Option (List ℕ))
    → is_kept (cond m (cond (d && not b) (ByBounds g) Kept) (ByPartition f)) ≡ (m && (not d || b))
kept_file true true true f g = refl
kept_file true true false f g = refl
kept_file true false b f g = refl
kept_file false d b f g = refl

module _ (specs : List Spec) (filter : List (Part BoundPredicate)) (spec : Spec) where
  pub row_kept : (row : Row) → spec_of specs row.spec_id ≡ Some spec
      → is_kept (row_fate (spec_tests filter spec) row) ≡ (pruner_of filter specs).wants row
  row_kept row is = kept_row (summaries_allow (projection filter spec) row.partitions) _
      ∙ sym (ap (by_projection filter (λ part. summaries_allow part row.partitions)) is)

  pub file_kept : (columns : List (List ℕ)) (l : Live) → spec_of specs l.entry.spec_id ≡ Some spec
      → is_kept (file_fate (ice_filter_tests specs filter columns) (spec_tests filter spec) l)
      ≡ keeps (pruner_of filter specs) l
  file_kept columns l is =
      kept_file (part_meets (projection filter spec) l.entry.file.tuple) (holds Data l.entry)
      (file_may filter l.bounds) _ _
      ∙ ap (λ (o : Option Spec). by_projection filter (λ part. part_meets part l.entry.file.tuple) o
      && (not (holds Data l.entry) || file_may filter l.bounds)) (sym is)
