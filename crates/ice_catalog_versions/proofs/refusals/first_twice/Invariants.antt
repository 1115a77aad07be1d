use Rattle.std.proofs.Common.{◌≡◌, drop, map}
use Rattle.ice_catalog_versions.specs.Refusals.{twice_after, first_twice}
use Rattle.ice_catalog_versions.proofs.refusals.first_twice.Given as goal

abbrev pub invariant-paths : goal.invariant-paths
invariant-paths l = twice_after l.last.now (map (λ path. path.now) (drop l.path-index l.others)) ≡ first_twice
    (map (λ path. path.now) l.paths)
