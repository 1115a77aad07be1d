use Rattle.std.proofs.Common.{}
use Rattle.icescan_reachable_laws.proofs.Planned.{reached, told}
use Rattle.icescan_reachable_laws.proofs.plans.plans_name_reached_files.Goals as goal

pub returns : goal.returns
returns g c =
    let gives = g.F.Files.gives c.args.files.now in
    record { reached = reached gives; told = told gives }
