use Rattle.std.proofs.Common.{}
use Rattle.icescan_paths.proofs.Unknown.{all_old, no_known}
use Rattle.icescan_paths.proofs.laws.orphans_are_unknown.Goals as goal

pub returns : goal.returns
returns c = record { unknown = no_known; old = all_old }
