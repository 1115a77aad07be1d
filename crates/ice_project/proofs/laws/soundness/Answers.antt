use Rattle.ice_project.proofs.Sound.{sound}
use Rattle.ice_project.proofs.laws.soundness.Goals as goal

pub returns : goal.returns
returns c = sound (record {
  ordered = record {
    itself = c.order_of_cells.ensures.itself;
    no_other = c.order_of_cells.ensures.no_other;
    turned = c.order_of_cells.ensures.turned;
    less = c.order_of_cells.ensures.less;
  };
  identity = c.identity_values.ensures;
  kept = c.null_values.ensures.kept;
  alone = c.null_values.ensures.alone;
  equal = c.equal_cells.ensures;
  rising = c.rising_values.ensures;
  whole = c.cut_texts.ensures.whole;
  short = c.cut_texts.ensures.short;
  valued = λ f t x p. (c.values_of_transforms.ensures f t x p).0;
  mapped = c.filters_over_other_predicates.ensures.meaning;
})
