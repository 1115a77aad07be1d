use Rattle.std.proofs.Common.{◌∙◌, sym, ap, length}
use Rattle.ice_state.specs.Lines.{entries_of}
use Rattle.ice_state.proofs.LinesAt.{length-entries_at}
use Rattle.ice_state.proofs.plan.lines.PlanFiles.len.Goals as goal

pub returns-clause-counted : goal.returns-clause-counted
returns-clause-counted c = sym
    (length-entries_at (entries_of c.self.inside.files) c.self.inside.places.now c.self.invariant.within) ∙ ap
    length c.self.view_is
