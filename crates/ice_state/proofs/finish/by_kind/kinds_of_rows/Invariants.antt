use Rattle.std.proofs.Common.{take}
use Rattle.ice_state.specs.ByKind.{HasFilesOf}
use Rattle.ice_state.specs.Orders.{runs_at}
use Rattle.ice_state.specs.Slots.{contents}
use Rattle.ice_state.proofs.finish.by_kind.kinds_of_rows.Given as goal

abbrev pub invariant-rows : goal.invariant-rows
invariant-rows l =
    HasFilesOf l.entries (runs_at (contents l.entries l.slots) (take l.row-index l.rows)) l.files
