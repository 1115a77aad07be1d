use Rattle.std.proofs.Common.{◌≡◌, drop, fold, map}
use Rattle.std.specs.Option.{option_copied}
use Rattle.ice_catalog_versions.specs.Refusals.{lesser_path, live_among}
use Rattle.ice_catalog_versions.proofs.bases.least_live.Given as goal

abbrev pub invariant-found : goal.invariant-found
invariant-found l =
    let paths = map (λ p. p.now) l.paths in
    fold lesser_path (option_copied l.least) (live_among paths (drop l.entry-index l.found)) ≡ fold lesser_path
    (option_copied l.fn.least) (live_among paths l.found)
