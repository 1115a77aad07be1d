use Rattle.std.proofs.Common.{sym}
use Rattle.avro_file_picked.specs.Guides.{ids_in}
use Rattle.avro_file_picked.proofs.Guided.{nothing_asked}
use Rattle.avro_file_picked.proofs.guide.is_kept.Goals as goal

pub returns-in-None : goal.returns-in-None
returns-in-None c = rw (c.in-None.is, ← c.if-takes_bytes.ensures) (sym (nothing_asked (ids_in c.args.field_paths.now)))
