use Rattle.avro_file_picked.proofs.FieldPaths.{short_number}
use Rattle.avro_file_picked.proofs.found.short_position.Goals as goal

pub returns-in-len1-up : goal.returns-in-len1-up
returns-in-len1-up c = (
  c.in-len1-up.len_at_least,
  rw c.from.ensures (short_number c.args.bytes.now c.in-len1-up.len_at_least c.if-first-lt128.true
      c.if-first-eq0.true),
)
