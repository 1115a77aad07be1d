use Rattle.std.proofs.Common.{◌≡◌, filter, length, take}
use Rattle.ice_value.specs.declared.file_content.FileContent.TheVariants.{Data}
use Rattle.ice_state.specs.Lines.{AreWithin}
use Rattle.ice_state.specs.Orders.{runs_at}
use Rattle.ice_state.specs.Pruning.{holds}
use Rattle.ice_state.specs.Slots.{contents}
use Rattle.ice_state.proofs.kept.row_runs.rows_with_data.Given as goal

abbrev pub invariant-rows : goal.invariant-rows
invariant-rows l =
    let cs = contents l.entries l.slots in
    record {
      within : AreWithin (length l.slots) l.found.items;
      same : filter (holds Data) (runs_at cs l.found.items) ≡ filter (holds Data) (runs_at cs (take l.row-index l.rows));
    }
