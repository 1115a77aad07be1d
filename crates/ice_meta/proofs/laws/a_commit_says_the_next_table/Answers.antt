use Rattle.ice_meta.proofs.Following.{says_next}
use Rattle.ice_meta.proofs.laws.a_commit_says_the_next_table.Goals as goal

pub returns : goal.returns
returns c = says_next
