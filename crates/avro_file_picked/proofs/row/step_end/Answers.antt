use Rattle.std.proofs.Common.{sym}
use Rattle.avro_schema.specs.View.{tree}
use Rattle.avro_file_picked.proofs.Rows.{union_step}
use Rattle.avro_file_picked.proofs.row.step_end.Goals as goal

pub returns-then-position-branches : goal.returns-then-position-branches
returns-then-position-branches c =
    union_step (tree c.args.schema.now) c.in-Some.branches.now c.index-branches-position.result c.args.bytes.now
    c.args.at c.from-position.result c.args.left.now c.plain_end-then-position-branches.new.left
    c.plain_end-then-position-branches.result (sym c.in-Some.ensures) c.if-at-bytes.true c.if-bytes-at-lt128.true
    c.if-bytes-at-eq0.true c.from-position.ensures c.if-position-branches.true c.index-branches-position.is
    c.plain_end-then-position-branches.ensures
