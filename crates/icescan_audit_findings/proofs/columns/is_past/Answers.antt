use Rattle.std.proofs.Common.{◌∙◌, sym}
use Rattle.icescan_audit_findings.proofs.InOrder.{none_past}
use Rattle.icescan_audit_findings.proofs.columns.is_past.Goals as goal

pub returns-then-are_in_order : goal.returns-then-are_in_order
returns-then-are_in_order c = sym (none_past c.args.column_type.now c.args.low.now c.args.high.now
    (sym c.are_in_order.ensures ∙ c.if-are_in_order.true))
