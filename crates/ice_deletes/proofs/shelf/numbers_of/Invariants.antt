use Rattle.std.proofs.Common.{◌≡◌, take, map}
use Rattle.ice_deletes.specs.declared.delete.Delete.{Delete}
use Rattle.ice_deletes.proofs.shelf.numbers_of.Given as goal

abbrev pub invariant-deletes : goal.invariant-deletes
invariant-deletes l = l.numbers.items ≡ map (λ (d : Delete). d.number) (take l.delete-index l.deletes)
