use Rattle.avro_file.proofs.Windows.{all_ends, some_ends}
use Rattle.avro_file.proofs.window.short_ends.Goals as goal

pub returns-then-four-eq0 : goal.returns-then-four-eq0
returns-then-four-eq0 c = all_ends c.args.bytes.now c.args.at c.last_bytes-last.result c.last_bytes-last.ensures
    c.last_bytes-last.type_inv c.if-four-eq0.true

pub returns : goal.returns
returns c = some_ends c.args.bytes.now c.args.at c.last_bytes-last.result c.last_bytes-last.ensures
    c.last_bytes-last.type_inv c.if-four-eq0.false
