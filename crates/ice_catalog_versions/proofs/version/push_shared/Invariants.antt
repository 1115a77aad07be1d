use Rattle.std.proofs.Common.{◌≡◌, ◌++◌, drop, map}
use Rattle.std.specs.Arc.{arc_value}
use Rattle.ice_catalog_versions.proofs.version.push_shared.Given as goal

abbrev pub invariant-commits : goal.invariant-commits
invariant-commits l = map (λ e. arc_value e) l.to.items ++ map (λ e. arc_value e) (drop l.commit-index l.commits) ≡ map
    (λ e. arc_value e) l.fn.to.items ++ map (λ e. arc_value e) l.commits
