use Rattle.std.proofs.Common.{sym, ◌∙◌}
use Rattle.ice_project.proofs.files.bounds_may.Goals as goal

pub returns-clause-sound : goal.returns-clause-sound
returns-clause-sound c = λ rows refusal counted.
    c.bounds_soundness.ensures c.args.filter.now.parts c.args.bounds.now rows (sym c.is_met.ensures ∙ refusal) counted
