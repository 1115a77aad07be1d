use Rattle.icescan_changes.proofs.Alike.{told_nothing, untold}
use Rattle.icescan_changes.proofs.laws.untold_paths_are_alike.Goals as goal

pub returns : goal.returns
returns c = λ earlier later path h k. (untold earlier later path h k, told_nothing earlier later path h k)
