use Rattle.icescan_changes.proofs.Plans.{plan_by_path}
use Rattle.icescan_changes.proofs.laws.plans_are_by_path.Goals as goal

pub returns : goal.returns
returns c = λ scan content plan h. plan_by_path scan content plan h
