use Rattle.ice_meta.proofs.Upgraded.{next_is_filled}
use Rattle.ice_meta.proofs.laws.a_commit_keeps_sequence_numbers.Goals as goal

pub returns : goal.returns
returns c = next_is_filled
