use Rattle.std.proofs.Common.{ap, ◌∙◌, arith}
use Rattle.path_arena.specs.Trees.{top_link}
use Rattle.path_arena.proofs.Walks.{goes_first, goes_on, goes_over}
use Rattle.path_arena.proofs.index.end_of.Goals as goal

pub loop-next-init : goal.loop-next-init
loop-next-init c = goes_first c.args.index.now c.args.bytes.now c.top-next.result
    (c.top-next.ensures.link ∙ ap (top_link c.args.index.now) c.requires) c.top-next.ensures.within

pub below-next-requires : goal.below-next-requires
below-next-requires c = omega (arith, c.loop-next-test.true, c.loop-next.invariant.within)

pub loop-next-preserved : goal.loop-next-preserved
loop-next-preserved c = let below = c.below-next.ensures in
    goes_on c.args.index.now c.args.bytes.now c.loop-next.depth c.loop-next.next c.below-next.result c.loop-next.link
    c.goes_right-right.result c.loop-next.invariant c.loop-next-test.true c.goes_right-right.ensures below.link
    below.within (λ more. omega (arith, below.later more, c.loop-next-test.true))

pub returns : goal.returns
returns c = goes_over c.args.index.now c.args.bytes.now c.loop-next.depth c.loop-next.next c.loop-next.link
    c.loop-next.invariant c.loop-next-test.false
