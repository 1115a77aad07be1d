use Rattle.icescan_requests.proofs.Crews.{few_wanted}
use Rattle.icescan_shares.proofs.selecting.scan_of_list.Goals as goal

pub returns-clause-scan : goal.returns-clause-scan
returns-clause-scan c =
    (c.in_ok-rows.rows.items, c.in_ok-rows.ensures.exact, rw c.from_vec.ensures at c.in_ok-into_scan.ensures)

pub returns-clause-few : goal.returns-clause-few
returns-clause-few c = few_wanted c.in_ok-rows.rows.items c.args.specs c.args.filter.parts c.in_ok-into_scan.field-0
    (rw c.from_vec.ensures at c.in_ok-into_scan.ensures) c.in_ok-rows.ensures.few
