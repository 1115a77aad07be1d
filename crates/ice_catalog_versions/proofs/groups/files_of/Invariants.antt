use Rattle.std.proofs.Common.{◌≡◌, ◌++◌, drop, filter}
use Rattle.ice_manifest.specs.Adding.{lent}
use Rattle.ice_catalog_versions.specs.Groups.{is_of_spec}
use Rattle.ice_catalog_versions.proofs.groups.files_of.Given as goal

abbrev pub invariant-files : goal.invariant-files
invariant-files l = lent l.found.items ++ filter (is_of_spec l.id) (drop l.file-index l.files) ≡ filter
    (is_of_spec l.id) l.files
