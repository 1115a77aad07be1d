use Rattle.std.proofs.Common.{◌≡◌, drop}
use Rattle.avro_schema.specs.View.{parts, fields_of}
use Rattle.avro_file.specs.Spelling.{some_takes_bytes}
use Rattle.avro_file.proofs.ends.+takes.Given as goal

abbrev pub invariant-one_takes_bytes-fields : goal.invariant-one_takes_bytes-fields
invariant-one_takes_bytes-fields l = some_takes_bytes (fields_of (parts (drop l.field-index l.field-items)))
    ≡ some_takes_bytes (fields_of (parts l.field-items))
