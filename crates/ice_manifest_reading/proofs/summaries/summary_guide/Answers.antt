use Rattle.std.proofs.Common.{ℤ, List, IfOk, ap, subst, ◌∙◌}
use Rattle.avro_schema.specs.View.{tree}
use Rattle.avro_file_picked.specs.Guides.{ids_in, IsGuideOf}
use Rattle.ice_manifest_layouts.specs.RowsFound.{summary_ids}
use Rattle.ice_manifest_values.proofs.Guiding.{guide_for}
use Rattle.ice_manifest_reading.specs.SummaryFieldPaths.{summary_field_paths}
use Rattle.ice_manifest_reading.proofs.SummariesSaid.{all_asked}
use Rattle.ice_manifest_reading.proofs.summaries.summary_guide.Goals as goal

pub returns : goal.returns
returns c = guide_for summary_field_paths summary_ids (tree c.args.schema.now) c.new.result
    (subst (λ (ws : List (List ℤ)). IfOk c.new.result (IsGuideOf ws (tree c.args.schema.now)))
    (ap ids_in c.deref.ensures.value ∙ c.in_ok-field_paths.ensures) c.new.ensures) all_asked
