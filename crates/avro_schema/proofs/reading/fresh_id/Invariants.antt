use Rattle.std.proofs.Common.{◌≡◌, drop}
use Rattle.std.specs.List.{list_any}
use Rattle.avro_schema.specs.View.{parts}
use Rattle.avro_schema.specs.Reading.{has_id}
use Rattle.avro_schema.proofs.reading.fresh_id.Given as goal

abbrev pub invariant-fields : goal.invariant-fields
invariant-fields l = list_any (has_id l.wanted) (parts (drop l.field-index l.field-items)) ≡ list_any (has_id l.wanted)
    (parts l.field-items)
