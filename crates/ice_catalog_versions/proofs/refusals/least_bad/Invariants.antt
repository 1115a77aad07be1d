use Rattle.std.proofs.Common.{◌≡◌, drop, fold}
use Rattle.std.specs.Option.{option_copied}
use Rattle.ice_catalog_versions.specs.Refusals.{is_bad, lesser_path, paths_where}
use Rattle.ice_catalog_versions.proofs.refusals.least_bad.Given as goal

abbrev pub invariant-files : goal.invariant-files
invariant-files l = fold lesser_path (option_copied l.least) (paths_where (is_bad l.content)
    (drop l.file-index l.files)) ≡ fold lesser_path (option_copied l.fn.least) (paths_where (is_bad l.content) l.files)
