use Rattle.std.proofs.Common.{◌∙◌, sym, ap, length}
use Rattle.ice_state.specs.Lines.{entries_of}
use Rattle.ice_state.proofs.LinesAt.{length-lines_at}
use Rattle.ice_state.proofs.plan.lines.Lines.len.Goals as goal

pub returns-clause-counted : goal.returns-clause-counted
returns-clause-counted c =
    c.len.ensures.counted
    ∙ sym (length-lines_at (entries_of c.self.inside.deletes) (entries_of c.self.inside.files)
    c.self.inside.places.now c.self.invariant.lines.each)
    ∙ ap length c.self.view_is
