use Rattle.ice_filter.specs.Trees.{tree_of}
use Rattle.icescan_json.specs.Expressions.{expression_json}
use Rattle.icescan_json.proofs.expressions.Expression.of_filter.Goals as goal

pub invariant_of-result : goal.invariant_of-result
invariant_of-result c =
    (expression_json c.args.schema.now (tree_of c.args.filter.now), c.in_ok-filter_text.ensures)
