use Rattle.std.proofs.Common.{◌≡◌, map, take}
use Rattle.ice_catalog_versions.specs.Tuples.{written_type}
use Rattle.ice_catalog_versions.proofs.adding.types_of.Given as goal

abbrev pub invariant-allowed : goal.invariant-allowed
invariant-allowed l = l.types ≡ map written_type (take l.one-index l.allowed)
