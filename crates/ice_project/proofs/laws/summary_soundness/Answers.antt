use Rattle.ice_project.proofs.SummaryLaws.{covered}
use Rattle.ice_project.proofs.laws.summary_soundness.Goals as goal

pub returns : goal.returns
returns c = covered (record {
  itself = c.order_of_cells.ensures.itself;
  no_other = c.order_of_cells.ensures.no_other;
  turned = c.order_of_cells.ensures.turned;
  less = c.order_of_cells.ensures.less;
}) c.filters_over_other_predicates.ensures.meaning
