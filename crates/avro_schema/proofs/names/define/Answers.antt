use Rattle.std.proofs.Common.{ap, sym, ◌∙◌, option_map}
use Rattle.std.specs.Option.{is_some}
use Rattle.avro_schema.specs.Joined.{joined}
use Rattle.avro_schema.specs.Met.{entries}
use Rattle.avro_schema.specs.View.{tree}
use Rattle.avro_schema.proofs.Keys.{entries-insert_entry, name_there, name_new, with_names_is}
use Rattle.avro_schema.proofs.names.define.Goals as goal

pub returns-in-Some : goal.returns-in-Some
returns-in-Some c = λ _. name_there (joined c.args.name) (option_map tree c.args.schema) c.args.seen.names.entries
    c.args.seen.left (ap is_some (sym c.in_ok-insert.ensures.old ∙ c.in-Some.is))

pub returns : goal.returns
returns c =
    name_new (joined c.args.name) (option_map tree c.args.schema) c.args.seen.names.entries c.args.seen.left
    (ap is_some (sym c.in_ok-insert.ensures.old ∙ c.in-None.is))
    ∙ with_names_is c.args.seen.left (sym (ap entries c.in_ok-insert.ensures.entries ∙ entries-insert_entry
    c.args.seen.names.entries c.args.name c.args.schema))
