use Rattle.std.proofs.Common.{◌<◌, length, refl, arith}
use Rattle.ice_meta.specs.declared.spec.PartitionField.{PartitionField}
use Rattle.ice_manifest.specs.Adding.{IsId}
use Rattle.ice_manifest.proofs.WrittenItems.{fields_on, fields_over, all_on, all_over}
use Rattle.ice_manifest.proofs.written_schemas.partition_fields.Goals as goal

pub fields-preserved : goal.fields-preserved
fields-preserved c =
    let p = c.index-fields-place.result in
    let within : c.fields.place < length c.args.types.now = omega arith in record {
      json = rw c.in_ok-push.ensures.items (fields_on c.args.naming c.args.fields.now c.args.types.now c.fields.place
          p _ _ c.fields.all.items _ _ c.fields-test.true within c.index-fields-place.is refl
          c.in_ok-partition_field.ensures.json c.fields.invariant.json);
      ids = all_on (λ (q : PartitionField). IsId q.field_id) c.args.fields.now c.fields.place p c.fields-test.true
          c.index-fields-place.is c.in_ok-partition_field.ensures.id c.fields.invariant.ids;
    }

pub returns-clause-json : goal.returns-clause-json
returns-clause-json c = fields_over c.args.naming c.args.fields.now c.args.types.now c.fields.place _ _
    c.fields-test.false c.fields.invariant.json

pub returns-clause-ids : goal.returns-clause-ids
returns-clause-ids c = all_over (λ (q : PartitionField). IsId q.field_id) c.args.fields.now c.fields.place
    c.fields-test.false c.fields.invariant.ids
