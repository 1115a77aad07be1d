use Rattle.ice_meta.proofs.Tabled.{new_is_there, new_is_current, main_moves}
use Rattle.ice_meta.proofs.laws.a_commit_adds_its_snapshot.Goals as goal

pub returns-clause-there : goal.returns-clause-there
returns-clause-there c = new_is_there

pub returns-clause-current : goal.returns-clause-current
returns-clause-current c = new_is_current

pub returns-clause-main : goal.returns-clause-main
returns-clause-main c = main_moves
