use Rattle.ice_meta.proofs.Following.{updated_next, logged_next}
use Rattle.ice_meta.proofs.laws.a_commit_tells_its_time.Goals as goal

pub returns-clause-updated : goal.returns-clause-updated
returns-clause-updated c = updated_next

pub returns-clause-log : goal.returns-clause-log
returns-clause-log c = logged_next
