use Rattle.std.proofs.Common.{◌≡◌, drop, ◌++◌}
use Rattle.std.specs.Prelude.{map}
use Rattle.ice_meta.proofs.numbered.ids_of.Given as goal

abbrev pub invariant-items : goal.invariant-items
invariant-items g l = l.ids.items ++ map g.T.Numbered.id_of (drop l.item-index l.items) ≡ map g.T.Numbered.id_of l.items
