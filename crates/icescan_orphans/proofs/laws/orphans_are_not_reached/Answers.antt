use Rattle.std.proofs.Common.{}
use Rattle.icescan_orphans.proofs.NotReached.{not_reached}
use Rattle.icescan_orphans.proofs.laws.orphans_are_not_reached.Goals as goal

pub returns : goal.returns
returns g c = not_reached (g.F.Files.gives c.args.files.now)
