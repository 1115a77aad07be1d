use Rattle.std.proofs.Common.{◌≡◌, drop, filter, fold, map}
use Rattle.ice_catalog_versions.specs.Refusals.{is_unknown, lesser_id, spec_id_of}
use Rattle.ice_catalog_versions.specs.Partitionings.{specs_of}
use Rattle.ice_catalog_versions.proofs.tuples.least_unknown.Given as goal

abbrev pub invariant-files : goal.invariant-files
invariant-files l = fold lesser_id l.least (filter (is_unknown (specs_of l.partitionings))
    (map spec_id_of (drop l.file-index l.files))) ≡ fold lesser_id l.fn.least
    (filter (is_unknown (specs_of l.partitionings)) (map spec_id_of l.files))
