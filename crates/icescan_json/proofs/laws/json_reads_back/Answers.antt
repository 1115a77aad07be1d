use Rattle.icescan_json.specs.PlanJson.{plan_json}
use Rattle.icescan_json.proofs.ReadBack.{reads_back}
use Rattle.icescan_json.proofs.Fitting.{plan_fits}
use Rattle.icescan_json.proofs.laws.json_reads_back.Goals as goal

pub returns : goal.returns
returns c = λ types residual p can fitting placed.
    let fits = plan_fits types residual can p fitting placed in
    reads_back (plan_json types residual p) fits.0 fits.1
