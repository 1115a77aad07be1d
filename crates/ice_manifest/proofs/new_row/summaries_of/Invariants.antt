use Rattle.std.proofs.Common.{◌≡◌, ◌++◌, drop}
use Rattle.ice_manifest.specs.Adding.{lent}
use Rattle.ice_manifest.specs.NewRows.{summaries_from}
use Rattle.ice_manifest.proofs.new_row.summaries_of.Given as goal

abbrev pub invariant-types : goal.invariant-types
invariant-types l = l.summaries ++ summaries_from l.place (drop l.place l.types) (lent l.files) ≡ summaries_from 0
    l.types (lent l.files)
