use Rattle.icescan_changes.proofs.Alike.{composed}
use Rattle.icescan_changes.proofs.laws.changes_compose.Goals as goal

pub returns : goal.returns
returns c = λ first second third path h k l. composed first second third path h k l
