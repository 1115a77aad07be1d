use Rattle.std.proofs.Common.{◌≤◌, sym, ◌∙◌, length, arith}
use Rattle.avro_schema.proofs.Parts.{decided_in_front, alike_in_front}
use Rattle.avro_schema.proofs.full_name.order_of_texts.Goals as goal

pub returns-then-is_ne : goal.returns-then-is_ne
returns-then-is_ne c =
    let a : c.min-both.result ≤ length c.args.left.now.space.now = omega (arith, c.min-both.ensures) in
    let b : c.min-both.result ≤ length c.args.right.now.space.now = omega (arith, c.min-both.ensures) in
    decided_in_front c.args.left.now.space.now c.args.left.now.name.now c.args.right.now.space.now
    c.args.right.now.name.now c.min-both.result c.order_of_slices-found.result a b c.order_of_slices-found.ensures
    (sym c.is_ne.ensures ∙ c.if-is_ne.true)

pub returns : goal.returns
returns c =
    let a : c.min-both.result ≤ length c.args.left.now.space.now = omega (arith, c.min-both.ensures) in
    let b : c.min-both.result ≤ length c.args.right.now.space.now = omega (arith, c.min-both.ensures) in
    c.order_from.ensures ∙ alike_in_front c.args.left.now.space.now c.args.left.now.name.now c.args.right.now.space.now
    c.args.right.now.name.now c.min-both.result c.order_of_slices-found.result a b c.order_of_slices-found.ensures
    (sym c.is_ne.ensures ∙ c.if-is_ne.false)
