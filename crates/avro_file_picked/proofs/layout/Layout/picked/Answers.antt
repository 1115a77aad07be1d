use Rattle.std.proofs.Common.{option_map, ◌∙◌, ap}
use Rattle.avro_schema.specs.View.{tree}
use Rattle.avro_file.specs.View.{view}
use Rattle.avro_file_picked.specs.Picked.{picked}
use Rattle.avro_file_picked.proofs.Picks.{one_more, all_done}
use Rattle.avro_file_picked.proofs.layout.Layout.picked.Goals as goal

pub field_paths-preserved : goal.field_paths-preserved
field_paths-preserved c = λ v is.
    rw (c.in_ok-push.ensures.items)
    (one_more (option_map view) (λ field_path. picked (tree c.args.object.schema.now) v field_path.items)
    c.field_paths.found.items c.deref-field_path-items.result.now c.field_paths.field_path-index
    c.field_path-item.result c.in_ok-datum_on_field_path.field-0
    c.field_paths-test.true c.field_path-item.is (c.field_paths.invariant v is)
    (c.in_ok-datum_on_field_path.ensures v is ∙ ap (picked (tree c.args.object.schema.now) v) c.deref.ensures.value))

pub returns : goal.returns
returns c = λ v is.
    rw (c.requires, ← c.deref-field_path-items.ensures.value)
    (all_done (option_map view) (λ field_path. field_path.items)
    (picked (tree c.args.object.schema.now) v) c.field_paths.found.items c.deref-field_path-items.result.now
    c.field_paths.field_path-index
    c.field_paths-test.false (c.field_paths.invariant v is))
