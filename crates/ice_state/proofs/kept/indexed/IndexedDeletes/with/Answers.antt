use Rattle.std.proofs.Common.{arith}
use Rattle.std.proofs.lemmas.Grind.{common_steps}
use Rattle.ice_state.proofs.DeletesKept.{index_of_first, index_of_rest}
use Rattle.ice_state.proofs.kept.indexed.IndexedDeletes.with.Goals as goal

pub returns-then-is_empty : goal.returns-then-is_empty
returns-then-is_empty c = λ kept xs ys mine its.
    index_of_first kept xs ys c.args.self c.args.other mine its (grind (arith, common_steps))

pub returns-then-is_empty-2 : goal.returns-then-is_empty-2
returns-then-is_empty-2 c = λ kept xs ys mine its.
    index_of_rest kept xs ys c.args.self c.args.other mine its (grind (arith, common_steps))
