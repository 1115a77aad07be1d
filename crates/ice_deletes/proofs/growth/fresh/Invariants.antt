use Rattle.std.proofs.Common.{◌≡◌, take, map}
use Rattle.ice_deletes.specs.Keys.{entry_of}
use Rattle.ice_deletes.specs.Unions.{renumbered, unheld}
use Rattle.ice_deletes.proofs.growth.fresh.Given as goal

abbrev pub invariant-files : goal.invariant-files
invariant-files l = map entry_of l.fresh.items
    ≡ unheld l.held (renumbered l.to (map entry_of (take l.file-index l.files)))
