use Rattle.std.proofs.Common.{◌≡◌, take, drop}
use Rattle.std.specs.List.{AllByRecursion}
use Rattle.serde_json.specs.View.{items_view}
use Rattle.ice_meta.specs.declared.spec.PartitionField.{PartitionField}
use Rattle.ice_manifest.specs.Adding.{IsId}
use Rattle.ice_manifest.specs.WrittenTypes.{fields_json}
use Rattle.ice_manifest.specs.WrittenSchemas.{partition_fields}
use Rattle.ice_manifest.proofs.WrittenItems.{joined}
use Rattle.ice_manifest.proofs.written_schemas.partition_fields.Given as goal

abbrev pub invariant-fields : goal.invariant-fields
invariant-fields l = record {
  json : joined (items_view l.all.items)
      (fields_json (partition_fields l.naming (drop l.place l.fields) (drop l.place l.types)))
      ≡ fields_json (partition_fields l.naming l.fields l.types);
  ids : AllByRecursion (λ (p : PartitionField). IsId p.field_id) (take l.place l.fields);
}
