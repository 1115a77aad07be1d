use Rattle.std.proofs.Common.{◌≡◌, ◌<◌, ◌-◌, length, take}
use Rattle.ice_state.specs.Apart.{path_at}
use Rattle.ice_state.specs.Orders.{runs_at}
use Rattle.ice_state.specs.Rising.{Rise}
use Rattle.ice_state.specs.Slots.{contents}
use Rattle.ice_state.proofs.kept.row_runs.rows_rise.Given as goal

abbrev pub invariant-rows : goal.invariant-rows
invariant-rows l =
    let xs = runs_at (contents l.entries l.slots) (take l.row-index l.rows) in
    record {
      rise : Rise xs;
      before : 0 < length xs → l.before ≡ path_at xs (length xs - 1);
    }
