use Rattle.std.proofs.Common.{◌≡◌, [], refl, subst}
use Rattle.avro_schema.specs.declared.schema.Schema.{Schema}
use Rattle.avro_schema.specs.View.{tree}
use Rattle.avro_file_picked.specs.Guides.{IsGuideFor}
use Rattle.ice_manifest_layouts.specs.RowsFound.{summary_ids}
use Rattle.ice_manifest_fields.specs.Each.{each}
use Rattle.ice_manifest_reading.proofs.summaries.summaries_unguided.Goals as goal

pub returns-in-None : goal.returns-in-None
unfolding each
returns-in-None c = λ vs ahead.
    let none : vs ≡ [] = c.in-None.ensures.items vs ahead in
    rw (c.new.ensures, none) refl

pub each_summary-requires : goal.each_summary-requires
each_summary-requires c = subst (λ (s : Schema). IsGuideFor summary_ids (tree s) c.in_ok-guide-in-Some.guide)
    c.schema.ensures c.in_ok-guide-in-Some.ensures
