use Rattle.std.proofs.Common.{◌≡◌, drop, length}
use Rattle.ice_catalog_versions.specs.Tuples.{fit}
use Rattle.ice_catalog_versions.proofs.tuples.fit.Given as goal

abbrev pub invariant-places : goal.invariant-places
invariant-places l = record {
  as_many : length l.allowed ≡ length l.tuple;
  rest : fit (drop l.place l.allowed) (drop l.place l.tuple) ≡ fit l.allowed l.tuple;
}
