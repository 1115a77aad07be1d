use Rattle.std.proofs.Common.{sym, ◌∙◌}
use Rattle.avro_schema.specs.Joined.{joined}
use Rattle.avro_schema.proofs.Parts.{lasts, last_decides, last_defers}
use Rattle.avro_schema.proofs.full_name.order.Goals as goal

pub returns-then-is_ne : goal.returns-then-is_ne
returns-then-is_ne c = last_decides (joined c.args.left.now) (joined c.args.right.now) c.cmp-found.result
    (lasts c.args.left.now.space.now c.args.left.now.name.now c.args.right.now.space.now c.args.right.now.name.now
    c.last_in-last.result.now c.last_in-other.result.now c.cmp-found.result c.cmp-found.ensures c.last_in-last.ensures
    c.last_in-other.ensures) (sym c.is_ne.ensures ∙ c.if-is_ne.true)

pub returns : goal.returns
returns c = c.order_of_texts.ensures ∙ last_defers (joined c.args.left.now) (joined c.args.right.now)
    c.cmp-found.result (lasts c.args.left.now.space.now c.args.left.now.name.now c.args.right.now.space.now
    c.args.right.now.name.now c.last_in-last.result.now c.last_in-other.result.now c.cmp-found.result
    c.cmp-found.ensures c.last_in-last.ensures c.last_in-other.ensures) (sym c.is_ne.ensures ∙ c.if-is_ne.false)
