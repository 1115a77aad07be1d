use Rattle.std.proofs.Common.{◌≡◌, map, take}
use Rattle.ice_catalog_versions.specs.Tuples.{allowed_of}
use Rattle.ice_catalog_versions.proofs.tuples.each_allowed.Given as goal

abbrev pub invariant-fields : goal.invariant-fields
invariant-fields l = l.found ≡ map allowed_of (take l.field-index l.fields)
