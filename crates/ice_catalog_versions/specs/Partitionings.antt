-- Partition specs as they are kept with what their values may be.
use Rattle.std.specs.Prelude.{List, map}
use Rattle.ice_meta.specs.declared.spec.Spec.{Spec}
use Rattle.ice_catalog_versions.specs.declared.partitioning.Partitioning.{Partitioning}

abbrev pub specs_of : List Partitioning → List Spec
specs_of partitionings = map (λ (p : Partitioning). p.spec.now) partitionings
