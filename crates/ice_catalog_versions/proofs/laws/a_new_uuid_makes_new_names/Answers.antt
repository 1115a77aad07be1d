use Rattle.ice_catalog_versions.proofs.NewNames.{carries_its_uuid, makes_new_names}
use Rattle.ice_catalog_versions.proofs.laws.a_new_uuid_makes_new_names.Goals as goal

pub returns : goal.returns
returns c = record { names = carries_its_uuid; new = makes_new_names }
