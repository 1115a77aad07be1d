use Rattle.ice_meta.proofs.Upgraded.{says_the_same}
use Rattle.ice_meta.proofs.laws.filling_in_says_the_same_table.Goals as goal

pub returns : goal.returns
returns c = says_the_same
