use Rattle.std.proofs.Common.{◌≡◌, drop}
use Rattle.ice_manifest.specs.Adding.{is_tuple_of}
use Rattle.ice_manifest.proofs.adding.is_tuple_of.Given as goal

abbrev pub invariant-cells : goal.invariant-cells
invariant-cells l = is_tuple_of (drop l.place l.types) (drop l.place l.tuple) ≡ is_tuple_of l.types l.tuple
