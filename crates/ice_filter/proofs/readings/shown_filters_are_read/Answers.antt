use Rattle.ice_filter.proofs.Printed.{shown_read}
use Rattle.ice_filter.proofs.readings.shown_filters_are_read.Goals as goal

pub returns : goal.returns
returns c = shown_read
