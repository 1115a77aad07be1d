use Rattle.std.proofs.Common.{◌≡◌, drop}
use Rattle.ice_catalog_versions.specs.Bases.{spec_in}
use Rattle.ice_catalog_versions.specs.Partitionings.{specs_of}
use Rattle.ice_catalog_versions.proofs.tuples.partitioning_of.Given as goal

abbrev pub invariant-partitionings : goal.invariant-partitionings
invariant-partitionings l = spec_in (specs_of (drop l.partitioning-index l.partitionings)) l.id ≡ spec_in
    (specs_of l.partitionings) l.id
