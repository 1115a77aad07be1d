use Rattle.std.proofs.Common.{◌≡◌, drop}
use Rattle.std.specs.List.{list_all}
use Rattle.ice_meta.specs.Partitioning.{is_void}
use Rattle.ice_meta.proofs.spec.Spec.is_unpartitioned.Given as goal

abbrev pub invariant-fields : goal.invariant-fields
invariant-fields l = list_all is_void (drop l.field-index l.field-items) ≡ list_all is_void l.field-items
