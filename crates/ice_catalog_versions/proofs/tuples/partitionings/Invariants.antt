use Rattle.std.proofs.Common.{◌≡◌, take}
use Rattle.ice_catalog_versions.specs.Partitionings.{specs_of}
use Rattle.ice_catalog_versions.proofs.tuples.partitionings.Given as goal

abbrev pub invariant-specs : goal.invariant-specs
invariant-specs l = specs_of l.found.items ≡ take l.spec-index l.specs
