use Rattle.std.proofs.Common.{◌∙◌, sym}
use Rattle.icescan_audit_all.proofs.SameRows.{one_row}
use Rattle.icescan_audit_all.proofs.listed.is_same.Goals as goal

pub returns : goal.returns
returns c = λ same. one_row c.args.a.now c.args.b.now (sym c.eq.ensures ∙ same)
