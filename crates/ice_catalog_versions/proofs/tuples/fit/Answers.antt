use Rattle.std.proofs.Common.{sym}
use Rattle.ice_catalog_versions.proofs.Fits.{fit_not}
use Rattle.ice_catalog_versions.proofs.tuples.fit.Goals as goal

pub returns-then-allowed-tuple : goal.returns-then-allowed-tuple
returns-then-allowed-tuple c = let h = c.if-allowed-tuple.true in sym (fit_not c.args.allowed.now c.args.tuple.now h)
