use Rattle.ice_state.proofs.Keys.{key_order}
use Rattle.ice_state.proofs.finish.helpers.WorkersHelpers.sort_parts.Goals as goal

pub sort_halves-requires-after_bounds : goal.sort_halves-requires-after_bounds
sort_halves-requires-after_bounds g c κs within = key_order
