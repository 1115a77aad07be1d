use Rattle.std.proofs.Common.{◌≡◌, drop}
use Rattle.std.specs.Option.{option_copied}
use Rattle.ice_manifest.specs.Adding.{lent}
use Rattle.ice_manifest.specs.NewRows.{greater, best_of, greatest, column_of}
use Rattle.ice_manifest.proofs.new_row.greatest.Given as goal

abbrev pub invariant-files : goal.invariant-files
invariant-files l = best_of greater (option_copied l.found) (column_of l.place (lent (drop l.file-index l.files)))
    ≡ greatest (column_of l.place (lent l.files))
