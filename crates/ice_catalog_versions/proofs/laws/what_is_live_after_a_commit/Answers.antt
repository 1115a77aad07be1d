use Rattle.ice_catalog_versions.proofs.LiveAfter.{adds_its_files, each_is_live, joins_files, joins_manifests}
use Rattle.ice_catalog_versions.proofs.laws.what_is_live_after_a_commit.Goals as goal

pub returns : goal.returns
returns c = record { manifests = joins_manifests; entries = adds_its_files; files = joins_files; each = each_is_live }
