use Rattle.std.proofs.Common.{◌≡◌, drop}
use Rattle.std.specs.Option.{option_copied}
use Rattle.ice_manifest.specs.Adding.{lent}
use Rattle.ice_manifest.specs.NewRows.{lesser, best_of, least, column_of}
use Rattle.ice_manifest.proofs.new_row.least.Given as goal

abbrev pub invariant-files : goal.invariant-files
invariant-files l = best_of lesser (option_copied l.found) (column_of l.place (lent (drop l.file-index l.files)))
    ≡ least (column_of l.place (lent l.files))
