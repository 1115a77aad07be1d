use Rattle.icescan_changes.proofs.Telling.{applied}
use Rattle.icescan_changes.proofs.laws.changes_apply.Goals as goal

pub returns : goal.returns
returns c = λ earlier later path h k. applied earlier later path h k
