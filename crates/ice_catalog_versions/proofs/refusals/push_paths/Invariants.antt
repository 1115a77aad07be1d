use Rattle.std.proofs.Common.{◌≡◌, ◌++◌, drop, map}
use Rattle.ice_catalog_versions.specs.Refusals.{path_of}
use Rattle.ice_catalog_versions.proofs.refusals.push_paths.Given as goal

abbrev pub invariant-files : goal.invariant-files
invariant-files l = map (λ path. path.now) l.paths.items ++ map path_of (drop l.file-index l.files) ≡ map
    (λ path. path.now) l.fn.paths.items ++ map path_of l.files
