use Rattle.ice_catalog_laws.proofs.Rows.{took_every}
use Rattle.ice_catalog_laws.proofs.laws.a_tree_takes_its_rows.Goals as goal

pub returns : goal.returns
returns c = took_every
