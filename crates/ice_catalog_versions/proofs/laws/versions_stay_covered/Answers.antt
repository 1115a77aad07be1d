use Rattle.ice_catalog_versions.proofs.Covered.{empty_is_covered, keeps_covering, stays_covered}
use Rattle.ice_catalog_versions.proofs.NewRows.{new_covered}
use Rattle.ice_catalog_versions.proofs.laws.versions_stay_covered.Goals as goal

pub returns : goal.returns
returns c = record { rows = new_covered; commit = keeps_covering; empty = empty_is_covered; versions = stays_covered }
