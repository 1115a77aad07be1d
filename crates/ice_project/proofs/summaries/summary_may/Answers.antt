use Rattle.std.proofs.Common.{ap, sym, ◌∙◌}
use Rattle.ice_project.specs.declared.part_filter.PartFilter.{PartFilter}
use Rattle.ice_project.specs.Summaries.{summaries_may}
use Rattle.ice_project.specs.Tuples.{part_meets}
use Rattle.ice_project.proofs.summaries.summary_may.Goals as goal

pub returns-clause-sound : goal.returns-clause-sound
returns-clause-sound c = λ filter spec tuple same cover met.
    let met_there = ap (λ (part : PartFilter). part_meets part tuple) (sym same) ∙ met in
    c.allows.ensures ∙ (ap (λ (part : PartFilter). summaries_may part c.args.summaries.now) same
    ∙ c.summary_soundness.ensures filter spec c.args.summaries.now tuple cover met_there)
