use Rattle.std.proofs.Common.{◌≡◌, ◌++◌, take}
use Rattle.ice_desk.specs.Wanted.{paths_of}
use Rattle.icescan_c_explanations.proofs.handed.push_wanted.Given as goal

abbrev pub invariant-rows : goal.invariant-rows
invariant-rows l = l.paths ≡ l.fn.paths ++ paths_of (take l.row-index l.row-items)
