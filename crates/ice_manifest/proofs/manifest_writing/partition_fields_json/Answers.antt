use Rattle.ice_manifest.proofs.WrittenItems.{specs_on, specs_over}
use Rattle.ice_manifest.proofs.manifest_writing.partition_fields_json.Goals as goal

pub fields-preserved : goal.fields-preserved
fields-preserved c = rw c.in_ok-push.ensures.items (specs_on c.args.fields.now c.fields.field-index c.field-item.result
    c.fields.all.items c.in_ok-partition_field_json.field-0 _ c.fields-test.true c.field-item.is
    c.in_ok-partition_field_json.ensures c.fields.invariant)

pub returns : goal.returns
returns c = specs_over c.args.fields.now c.fields.field-index _ _ c.fields-test.false c.fields.invariant
