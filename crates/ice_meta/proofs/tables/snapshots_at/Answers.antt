use Rattle.std.specs.List.{IsDistinct}
use Rattle.ice_meta.proofs.tables.snapshots_at.Goals as goal

pub returns-in-None-clause-different : goal.returns-in-None-clause-different
unfolding IsDistinct
returns-in-None-clause-different c = rw c.new.ensures tt
