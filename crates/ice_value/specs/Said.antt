-- What a summary says, in its own bytes or in others.
use Rattle.ice_value.specs.declared.file_bounds.Said.{Said}
use Rattle.ice_value.specs.declared.file_bounds.Said.TheVariants.{Short, Long}
use Rattle.ice_value.specs.Summaries.{FieldSummary}

abbrev pub summary_said : Said → FieldSummary
summary_said (Short brief) = brief
summary_said (Long bounded) = bounded.value
