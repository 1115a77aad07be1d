use Rattle.std.proofs.Common.{refl}
use Rattle.ice_filter.proofs.bound.Bound.always.Goals as goal

pub returns-clause-met : goal.returns-clause-met
returns-clause-met c = λ row. rw c.always.ensures refl
