use Rattle.std.proofs.Common.{Option, subst}
use Rattle.std.specs.List.Sorted.{IsSortedBy}
use Rattle.ice_deletes.specs.Shelves.{earlier, fresh_in}
use Rattle.ice_deletes.specs.declared.growth.Growth.{Growth}
use Rattle.ice_deletes.proofs.shelf.Shelf.grow.Goals as goal

pub take_in-requires-clause-fresh : goal.take_in-requires-clause-fresh
take_in-requires-clause-fresh c =
    let P : Option Growth → Type 0 = λ o. IsSortedBy (earlier c.args.self.now.group) (fresh_in o) in
    subst P c.in-Some.is c.requires.fresh
