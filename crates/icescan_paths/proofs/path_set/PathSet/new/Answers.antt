use Rattle.std.proofs.Common.{}
use Rattle.icescan_paths.proofs.Searched.{alike}
use Rattle.icescan_paths.proofs.path_set.PathSet.new.Goals as goal

pub returns : goal.returns
returns c = alike c.args.paths.items c.sort_unstable.new.self.items c.sort_unstable.ensures.permutation
