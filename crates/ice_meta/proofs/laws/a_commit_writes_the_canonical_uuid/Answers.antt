use Rattle.ice_meta.proofs.Following.{writes_uuid, uuid_next}
use Rattle.ice_meta.proofs.laws.a_commit_writes_the_canonical_uuid.Goals as goal

pub returns-clause-written : goal.returns-clause-written
returns-clause-written c = writes_uuid

pub returns-clause-same : goal.returns-clause-same
returns-clause-same c = uuid_next
