use Rattle.ice_catalog_laws.proofs.Squares.{stays}
use Rattle.ice_catalog_laws.proofs.laws.a_machine_changes_only_where_it_says_so.Goals as goal

pub returns : goal.returns
returns c = stays
