use Rattle.std.proofs.Common.{ap, sym, ◌∙◌}
use Rattle.ice_project.specs.declared.part_filter.PartFilter.{PartFilter}
use Rattle.ice_project.specs.Tuples.{part_meets}
use Rattle.ice_project.proofs.part_filter.PartFilter.meets.Goals as goal

pub returns-clause-sound : goal.returns-clause-sound
returns-clause-sound c = λ filter spec rows same refusal honest.
    c.soundness.ensures filter spec c.args.tuple.now rows
    (ap (λ (part : PartFilter). part_meets part c.args.tuple.now) (sym same) ∙ (sym c.is_met.ensures ∙ refusal)) honest
