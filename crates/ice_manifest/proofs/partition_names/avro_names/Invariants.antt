use Rattle.std.proofs.Common.{◌≡◌, map, take}
use Rattle.ice_meta.specs.declared.spec.PartitionField.{PartitionField}
use Rattle.ice_manifest.specs.PartitionNames.{avro_name}
use Rattle.ice_manifest.proofs.partition_names.avro_names.Given as goal

abbrev pub invariant-fields : goal.invariant-fields
invariant-fields l = l.names.items ≡ map (λ (p : PartitionField). avro_name p.name) (take l.field-index l.fields)
