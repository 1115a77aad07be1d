use Rattle.std.proofs.Common.{◌≡◌, ◌+◌, drop, length}
use Rattle.avro_file.proofs.Views.{field_trees}
use Rattle.avro_file_picked.specs.Rows.{row_of}
use Rattle.avro_file_picked.proofs.row.+count.Given as goal

abbrev pub invariant-fields_len-fields : goal.invariant-fields_len-fields
invariant-fields_len-fields l = l.count + length (row_of (field_trees (drop l.field-index l.fields)))
    ≡ length (row_of (field_trees l.fields))
