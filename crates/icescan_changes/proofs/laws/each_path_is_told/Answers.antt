use Rattle.icescan_changes.proofs.Telling.{each_path}
use Rattle.icescan_changes.proofs.laws.each_path_is_told.Goals as goal

pub returns : goal.returns
returns c = λ earlier later path h k. each_path earlier later path h k
