use Rattle.std.proofs.Common.{refl}
use Rattle.ice_catalog_laws.proofs.Trees.{plays_tree}
use Rattle.ice_catalog_laws.proofs.laws.a_tree_is_played.Goals as goal

pub returns : goal.returns
returns c = λ m k w p run at fresh there. plays_tree p.history p.scan k run m w p at refl refl fresh there
