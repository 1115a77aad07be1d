use Rattle.icescan_changes.proofs.Telling.{plan_itself}
use Rattle.icescan_changes.proofs.laws.one_plan_has_no_changes.Goals as goal

pub returns : goal.returns
returns c = λ plan. plan_itself plan
