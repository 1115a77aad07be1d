use Rattle.std.proofs.Common.{◌≡◌, sym, ap, ◌∙◌, Ok, true}
use Rattle.std.specs.List.{Contains}
use Rattle.ice_manifest_reading.specs.declared.row.Row.{Row}
use Rattle.ice_state.specs.Pruning.{Pruner, pruner_of}
use Rattle.ice_state.specs.Contents.{content}
use Rattle.ice_state.specs.Snapshots.{plan_of_snapshot}
use Rattle.ice_state.proofs.OfSpecs.{live_of_row}
use Rattle.ice_state_laws.proofs.Honest.{is_planned, wanted_where}
use Rattle.ice_state_laws.proofs.matches.what_has_a_match_is_planned.Goals as goal

pub returns : goal.returns
returns c =
    let tuples = c.left_out_files.ensures.values in
    let bounds = c.left_out_files.ensures.columns in
    let planned = c.snapshot_plans.ensures.planned in
    record {
      snapshot = λ world specs filter rows plan l file h lives of_data honest m.
          is_planned tuples bounds live_of_row world specs filter rows plan l file
          ((planned world specs filter rows plan).0 h) lives of_data honest m;
      finished = λ world specs rows scan ts plan row l file is of h d e of_data honest covers m.
          let took = c.finished_plans.ensures.planned rows specs scan (content world scan ts) plan of h in
          let made : plan_of_snapshot (pruner_of scan.filter specs) world specs scan.wanted ≡ Ok plan =
          sym (c.finished_plans.ensures.taken world rows specs scan ts is of took) ∙ h in
          let same = c.scanning.ensures.same_pruner rows specs scan is in
          let among : (r : Row) → Contains rows r → (pruner_of scan.filter specs).wants r ≡ true
          → Contains scan.wanted r =
          λ r k w. (c.scanning.ensures.wanted rows specs scan r is).1 (k, ap (λ (q : Pruner). q.wants r) same ∙ w) in
          is_planned tuples bounds live_of_row world specs scan.filter scan.wanted plan l file
          ((planned world specs scan.filter scan.wanted plan).0 made)
          (wanted_where tuples bounds live_of_row world specs scan.filter (c.filtering.ensures.sound scan.filter specs)
          rows scan.wanted among row l file d e covers honest m) of_data honest m;
    }
