use Rattle.std.proofs.Common.{take, ap, ◌∙◌, rules}
use Rattle.std.proofs.lemmas.List.{with_items_is, places}
use Rattle.icescan_files.proofs.input.read_behind.Goals as goal

pub returns-clause-front : goal.returns-clause-front
returns-clause-front g c =
    ap (take c.args.filled) (with_items_is c.args.bytes.now c.read_at.new.bytes (search (rules, places)))
    ∙ c.read_at.ensures.front ∙ ap (take c.args.filled) c.as_mut_slice.ensures.value

pub returns-clause-read : goal.returns-clause-read
returns-clause-read g c = rw (with_items_is c.args.bytes.now c.read_at.new.bytes (search (rules, places))) c.read_at.ensures.read
