use Rattle.icescan_json.proofs.Points.{zeros_are}
use Rattle.icescan_json.proofs.decimals.zeros.Goals as goal

pub returns : goal.returns
returns c = zeros_are c.args.n 38 c.requires
