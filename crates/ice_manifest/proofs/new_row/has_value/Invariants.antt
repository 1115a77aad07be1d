use Rattle.std.proofs.Common.{◌≡◌, drop, not}
use Rattle.std.specs.List.{list_any}
use Rattle.ice_manifest.specs.Adding.{lent}
use Rattle.ice_manifest.specs.NewRows.{is_null, column_of}
use Rattle.ice_manifest.proofs.new_row.has_value.Given as goal

abbrev pub invariant-files : goal.invariant-files
invariant-files l = list_any (λ c. not (is_null c)) (column_of l.place (lent (drop l.file-index l.files)))
    ≡ list_any (λ c. not (is_null c)) (column_of l.place (lent l.files))
