use Rattle.ice_deletes.proofs.Endings.{associates, at_once, commutes, unique}
use Rattle.ice_deletes.proofs.laws.merging_of_indexes.Goals as goal

pub returns-clause-commutative : goal.returns-clause-commutative
returns-clause-commutative c = commutes

pub returns-clause-associative : goal.returns-clause-associative
returns-clause-associative c = associates

pub returns-clause-unique : goal.returns-clause-unique
returns-clause-unique c = unique

pub returns-clause-tree : goal.returns-clause-tree
returns-clause-tree c = at_once
