use Rattle.std.proofs.Common.{IfSome, Option, subst}
use Rattle.ice_state.specs.declared.kept.deletes.KeptDeletes.{KeptDeletes}
use Rattle.ice_state.specs.KeptDeletes.{AreDeletesOf}
use Rattle.ice_state.proofs.kept.deletes.absorbed_behind.Goals as goal

pub returns : goal.returns
returns c = λ firsts kept xs before are.
    c.behind.ensures firsts kept xs before
    (subst (λ (o : Option KeptDeletes). IfSome o (AreDeletesOf kept xs)) c.in_ok-deletes.was are)
