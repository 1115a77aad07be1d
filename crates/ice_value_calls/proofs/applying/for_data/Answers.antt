use Rattle.std.proofs.Common.{w32}
use mir.Val.{SFits}
use Rattle.std.proofs.lemmas.Int.{to_z-of_z}
use Rattle.ice_value_calls.proofs.applying.for_data.Goals as goal

pub returns : goal.returns
returns c =
    let fits : SFits w32 c.args.spec_id = c.ranges.spec_id in
    simp to_z-of_z at c.for_data.ensures.exact
