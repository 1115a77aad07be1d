use Rattle.std.proofs.Common.{drop, sym}
use Rattle.avro_schema.specs.View.{tree}
use Rattle.avro_file_picked.proofs.Placed.{to_the_end}
use Rattle.avro_file_picked.proofs.FieldPaths.{met_in_branch}
use Rattle.avro_file_picked.proofs.found.found_here.Goals as goal

pub returns-in-Some-short_position : goal.returns-in-Some-short_position
returns-in-Some-short_position c = λ v is.
    met_in_branch (tree c.args.schema.now) c.in-Some.branches.now c.in-Some-short_position.position
    c.index-branches-position.result c.args.bytes.now (drop 1 c.args.bytes.now) v
    c.found_unless_null-in-Some-short_position.result (sym c.in-Some.ensures) c.if-position-branches.true
    c.index-branches-position.is c.in-Some-short_position.ensures.1 (λ w at.
    c.found_unless_null-in-Some-short_position.ensures w (rw (to_the_end 1 c.args.bytes.now) at)) is
