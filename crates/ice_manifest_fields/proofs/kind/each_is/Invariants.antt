use Rattle.std.proofs.Common.{◌≡◌, drop}
use Rattle.avro_schema.specs.View.{trees, branches_of}
use Rattle.ice_manifest_fields.specs.Types.{each_is}
use Rattle.ice_manifest_fields.specs.Kinds.{wanted}
use Rattle.ice_manifest_fields.proofs.kind.each_is.Given as goal

abbrev pub invariant-branches : goal.invariant-branches
invariant-branches l = each_is (wanted l.kind) (branches_of (trees (drop l.branch-index l.branches))) ≡ each_is
    (wanted l.kind) (branches_of (trees l.branches))
