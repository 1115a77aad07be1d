use Rattle.ice_filter.proofs.Shapes.{text_reads, parsed_filter}
use Rattle.ice_filter.proofs.parser.parse.Goals as goal

pub returns-in_err-read-clause-grammar : goal.returns-in_err-read-clause-grammar
returns-in_err-read-clause-grammar c = text_reads c.args.text.now

pub returns-clause-grammar : goal.returns-clause-grammar
returns-clause-grammar c = text_reads c.args.text.now

pub from_items-requires : goal.from_items-requires
from_items-requires c = parsed_filter c.args.text.now c.into_parts-parts.result
    (rw (← c.new-parser.ensures, c.into_parts-parts.ensures) c.in_ok-read.ensures)

pub returns-in_err-from_items-clause-grammar : goal.returns-in_err-from_items-clause-grammar
returns-in_err-from_items-clause-grammar c = text_reads c.args.text.now
