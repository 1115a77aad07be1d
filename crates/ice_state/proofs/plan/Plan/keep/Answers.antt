use Rattle.std.proofs.Common.{◌∙◌}
use Rattle.ice_state.proofs.Planning.{planned_alike, lines_alike}
use Rattle.ice_state.proofs.plan.Plan.keep.Goals as goal

pub invariant_of-result : goal.invariant_of-result
invariant_of-result c = rw c.in_ok-copy.ensures (planned_alike c.self.inside.entries.now c.self.inside.numbered
    c.in_ok-copy-2.field-0 c.in_ok-copy-2.ensures.files c.in_ok-copy-2.ensures.deletes c.in_ok-copy-2.ensures.places
    c.self.invariant)

pub returns : goal.returns
returns c = rw c.in_ok-copy.ensures (lines_alike c.self.inside.entries.now c.self.inside.numbered
    c.in_ok-copy-2.field-0 c.in_ok-copy-2.ensures.files c.in_ok-copy-2.ensures.deletes c.in_ok-copy-2.ensures.places
    ∙ c.self.view_is)
