use Rattle.std.proofs.Common.{}
use Rattle.icescan_reachable.proofs.Reached.{tells_all, tells_only}
use Rattle.icescan_reachable.proofs.laws.lines_are_of_reached_files.Goals as goal

pub returns : goal.returns
returns g c =
    let gives = g.F.Files.gives c.args.files.now in
    record { only = tells_only gives; all = tells_all gives }
