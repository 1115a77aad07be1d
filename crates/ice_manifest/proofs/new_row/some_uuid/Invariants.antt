use Rattle.std.proofs.Common.{◌≡◌, drop}
use Rattle.ice_manifest.specs.Adding.{lent}
use Rattle.ice_manifest.specs.NewRows.{some_uuid}
use Rattle.ice_manifest.proofs.new_row.some_uuid.Given as goal

abbrev pub invariant-types : goal.invariant-types
invariant-types l = some_uuid l.place (drop l.place l.types) (lent l.files) ≡ some_uuid 0 l.types (lent l.files)
