use Rattle.std.proofs.Common.{subst}
use Rattle.ice_catalog_versions.specs.Live.{AddsToBase}
use Rattle.ice_catalog_versions.proofs.preparing.prepare_in_place.Goals as goal

pub returns-clause-live : goal.returns-clause-live
returns-clause-live c =
    subst (AddsToBase c.args.base) c.in_ok-commit.ensures.commit c.in_ok-commit.ensures.adds
