use Rattle.std.proofs.Common.{sym}
use Rattle.avro_schema.specs.View.{tree}
use Rattle.avro_file.specs.Blocks.{max_items}
use Rattle.avro_file_picked.proofs.Values.{stood}
use Rattle.avro_file_picked.proofs.FieldPaths.{null_at_end, present_at_end}
use Rattle.avro_file_picked.proofs.found.found_unless_null.Goals as goal

pub returns-then-is_null : goal.returns-then-is_null
returns-then-is_null c = λ v is.
    let read = stood (tree c.args.schema.now) c.args.bytes.now v is in
    null_at_end (tree c.args.schema.now) (record { bytes = c.args.bytes.now; left = max_items }) read.0 v
    (sym c.if-is_null.ensures) read.1

pub returns-else-is_null : goal.returns-else-is_null
returns-else-is_null c = λ v is.
    let read = stood (tree c.args.schema.now) c.args.bytes.now v is in (
      v,
      is,
      present_at_end (tree c.args.schema.now) (record { bytes = c.args.bytes.now; left = max_items }) read.0 v
          (sym c.if-is_null.ensures) read.1,
    )
