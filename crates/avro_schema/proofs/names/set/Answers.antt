use Rattle.std.proofs.Common.{ap, sym, ◌∙◌}
use Rattle.avro_schema.proofs.Keys.{entries-insert_entry, with_names_is}
use Rattle.avro_schema.specs.Met.{entries}
use Rattle.avro_schema.proofs.names.set.Goals as goal

pub returns : goal.returns
returns c = with_names_is c.args.seen.left (sym (ap entries c.in_ok-insert.ensures.entries ∙ entries-insert_entry
    c.args.seen.names.entries c.args.name c.args.schema))
