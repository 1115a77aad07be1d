use Rattle.std.proofs.Common.{subst}
use Rattle.ice_catalog_versions.specs.Live.{IsGrown}
use Rattle.ice_catalog_versions.proofs.Covered.{stays_covered}
use Rattle.ice_catalog_versions.proofs.version.Version.grew.Goals as goal

pub returns-clause-grown : goal.returns-clause-grown
returns-clause-grown c = subst IsGrown c.self.view_is c.self.invariant.1

pub returns-clause-covered : goal.returns-clause-covered
returns-clause-covered c = λ state leaves began. stays_covered c.args.self.now state (subst IsGrown c.self.view_is
    c.self.invariant.1) began leaves
