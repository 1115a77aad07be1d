use Rattle.icescan_shares.proofs.Naming.{texts_apart}
use Rattle.icescan_shares.proofs.laws.naming.Goals as goal

pub returns : goal.returns
returns c = texts_apart
