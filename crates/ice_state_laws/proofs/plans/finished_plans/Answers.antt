use Rattle.contract_words.proofs.Sorted.{rises_from}
use Rattle.ice_state.specs.Scans.{row_before}
use Rattle.ice_state.proofs.Scans.{row_order}
use Rattle.ice_state_laws.proofs.Finishing.{to_missing, from_missing, took_all, finished}
use Rattle.ice_state_laws.proofs.plans.finished_plans.Goals as goal

pub returns : goal.returns
returns c =
    let s = c.scanning.ensures in
    record {
      missing = λ rows specs scan state path is of.
          let rises = rises_from row_before row_order scan.wanted (s.sorted rows specs scan is) in
          (to_missing scan state of rises path, from_missing scan state of rises path);
      planned = λ rows specs scan state plan of h. took_all scan state of plan h;
      taken = λ world rows specs scan ts is of took.
          finished c.pruning.ensures.same_entries c.pruning.ensures.plans world scan specs
          (c.filtering.ensures.open_where_unpartitioned scan.filter specs)
          (λ id. s.same_specs rows specs scan id is) (s.same_pruner rows specs scan is)
          (rises_from row_before row_order scan.wanted (s.sorted rows specs scan is))
          (λ row m. ((s.wanted rows specs scan row is).0 m).1) ts of took;
    }
