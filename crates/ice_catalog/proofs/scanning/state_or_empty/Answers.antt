use Rattle.std.proofs.Common.{◌≡◌, ◌∙◌, ap, sym, length, replicate, Some, None}
use Rattle.std.proofs.lemmas.Result.{IfOk-weaker}
use Rattle.ice_state.specs.Contents.{Content, IsOf, content, no_row}
use Rattle.ice_catalog.specs.Taken.{IsTaken, rows_of, set_of}
use Rattle.ice_catalog.proofs.Taken.{all_ok, rows_none, taken_empty}
use Rattle.ice_catalog.proofs.scanning.state_or_empty.Goals as goal

pub returns-in-None-clause-taken : goal.returns-in-None-clause-taken
returns-in-None-clause-taken c =
    λ world _.
    let scan = c.args.scan.now in
    all_ok c.empty.result (λ (s : Content). IsOf scan s) (λ (s : Content). s ≡ replicate (length scan.wanted) None)
    (λ (s : Content). s ≡ content world scan (no_row scan)) (λ (s : Content). IsTaken world scan (Some s))
    (taken_empty world scan) c.empty.ensures.of_scan c.empty.ensures.none (c.empty.ensures.world world)

pub returns-in-None-clause-set : goal.returns-in-None-clause-set
returns-in-None-clause-set c =
    let scan = c.args.scan.now in
    IfOk-weaker c.empty.result _ _ (λ s none. ap rows_of none ∙ (rows_none (length scan.wanted) ∙ sym
    (ap (set_of scan) c.in-None.is))) c.empty.ensures.none
