use Rattle.std.proofs.Common.{rules, w32}
use mir.Val.{SFits}
use Rattle.std.proofs.lemmas.Int.{to_z-of_z}
use Rattle.icescan_columns.proofs.json_lines.push_default.Goals as goal

pub returns : goal.returns
returns c =
    let f : SFits w32 c.args.id = search rules in
    simp to_z-of_z at c.push.ensures
