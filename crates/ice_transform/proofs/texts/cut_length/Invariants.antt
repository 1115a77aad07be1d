use Rattle.std.proofs.Common.{◌≡◌, ◌++◌, take, drop}
use Rattle.ice_transform.specs.Cuts.{points_from, first_points}
use Rattle.ice_transform.proofs.texts.cut_length.Given as goal

abbrev pub invariant-bytes : goal.invariant-bytes
invariant-bytes l = take l.at l.text ++ points_from l.left l.open (drop l.at l.text) ≡ first_points l.fn.width l.text
