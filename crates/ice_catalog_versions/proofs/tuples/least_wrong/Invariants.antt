use Rattle.std.proofs.Common.{◌≡◌, drop, fold}
use Rattle.std.specs.Option.{option_copied}
use Rattle.ice_catalog_versions.specs.Refusals.{is_wrong, lesser_path, paths_where}
use Rattle.ice_catalog_versions.specs.Partitionings.{specs_of}
use Rattle.ice_catalog_versions.proofs.tuples.least_wrong.Given as goal

abbrev pub invariant-files : goal.invariant-files
invariant-files l =
    let wrong = is_wrong (specs_of l.partitionings) in
    fold lesser_path (option_copied l.least) (paths_where wrong (drop l.file-index l.files)) ≡ fold lesser_path
    (option_copied l.fn.least) (paths_where wrong l.files)
