use Rattle.std.proofs.Common.{◌≡◌, drop}
use Rattle.serde_json.specs.View.{items_view}
use Rattle.ice_manifest.specs.Writing.{partition_fields_json}
use Rattle.ice_manifest.proofs.WrittenItems.{joined}
use Rattle.ice_manifest.proofs.manifest_writing.partition_fields_json.Given as goal

abbrev pub invariant-fields : goal.invariant-fields
invariant-fields l = joined (items_view l.all.items) (partition_fields_json (drop l.field-index l.fields))
    ≡ partition_fields_json l.fields
