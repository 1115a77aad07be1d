use Rattle.std.proofs.Common.{ℤ, List, IfOk, ap, subst, ◌∙◌}
use Rattle.avro_schema.specs.View.{tree}
use Rattle.avro_file_picked.specs.Guides.{ids_in, IsGuideOf}
use Rattle.ice_manifest_values.specs.Met.{pair_field_paths, pair_ids}
use Rattle.ice_manifest_values.proofs.Itself.{pair_asked}
use Rattle.ice_manifest_values.proofs.Guiding.{guide_for}
use Rattle.ice_manifest_values.proofs.pairs.pair_guide.Goals as goal

pub returns : goal.returns
returns c = guide_for (pair_field_paths c.args.map) (pair_ids c.args.map) (tree c.args.schema.now) c.new.result
    (subst (λ (ws : List (List ℤ)). IfOk c.new.result (IsGuideOf ws (tree c.args.schema.now)))
    (ap ids_in c.deref.ensures.value ∙ c.in_ok-field_paths.ensures) c.new.ensures) (pair_asked c.args.map)
