use Rattle.std.proofs.Common.{◌≡◌, drop}
use Rattle.avro_schema.specs.View.{trees, branches_of}
use Rattle.ice_manifest_fields.specs.Types.{some_is}
use Rattle.ice_manifest_fields.specs.Kinds.{wanted}
use Rattle.ice_manifest_fields.proofs.kind.some_is.Given as goal

abbrev pub invariant-branches : goal.invariant-branches
invariant-branches l = some_is (wanted l.kind) (branches_of (trees (drop l.branch-index l.branches))) ≡ some_is
    (wanted l.kind) (branches_of (trees l.branches))
