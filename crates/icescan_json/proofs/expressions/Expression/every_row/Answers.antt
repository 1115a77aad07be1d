use Rattle.std.proofs.Common.{true}
use Rattle.serde_json.specs.Data.{boolean}
use Rattle.icescan_json.proofs.expressions.Expression.every_row.Goals as goal

pub invariant_of-result : goal.invariant_of-result
invariant_of-result c = (boolean true, c.in_ok-text_of.ensures)
