use Rattle.std.proofs.Common.{◌≡◌, drop, fold, map}
use Rattle.std.specs.Option.{option_copied}
use Rattle.ice_catalog_versions.specs.Bases.{manifest_at, live_in}
use Rattle.ice_catalog_versions.specs.Refusals.{lesser_path, least_path, live_among, unreadable}
use Rattle.ice_catalog_versions.specs.Partitionings.{specs_of}
use Rattle.ice_catalog_versions.proofs.bases.least_taken.Given as goal

abbrev pub invariant-rows : goal.invariant-rows
invariant-rows l =
    let specs = specs_of l.partitionings in
    let paths = map (λ p. p.now) l.paths in
    let rest = drop l.row-index l.rows in
    record {
      bad : unreadable (manifest_at l.world specs) rest ≡ unreadable (manifest_at l.world specs) l.rows;
      taken : fold lesser_path (option_copied l.least) (live_among paths (live_in l.world specs rest)) ≡ least_path
          (live_among paths (live_in l.world specs l.rows));
    }
