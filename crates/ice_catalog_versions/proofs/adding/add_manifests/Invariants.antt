use Rattle.std.proofs.Common.{◌≡◌, ◌++◌, drop, map}
use Rattle.std.specs.List.{AllByRecursion}
use Rattle.ice_meta.specs.Targets.{described}
use Rattle.ice_catalog_versions.specs.Adding.{CanWrite, manifests_from, file_of, row_of, next_sequence}
use Rattle.ice_catalog_versions.specs.Live.{IsReadBack}
use Rattle.ice_catalog_versions.specs.Seen.{all_seen}
use Rattle.ice_catalog_versions.proofs.adding.add_manifests.Given as goal

abbrev pub invariant-groups : goal.invariant-groups
invariant-groups l =
    let m = described l.metadata.json l.metadata.table in
    let rest = all_seen (drop l.number l.groups) in
    record {
      rows : l.additions.rows.items ++ map (row_of (next_sequence l.metadata.table)) (manifests_from m l.ids l.number
          rest) ≡ l.fn.additions.rows.items ++ map (row_of (next_sequence l.metadata.table)) (manifests_from m l.ids 0
          (all_seen l.groups));
      files : l.additions.files.items ++ map file_of (manifests_from m l.ids l.number rest) ≡ l.fn.additions.files.items
          ++ map file_of (manifests_from m l.ids 0 (all_seen l.groups));
      read : AllByRecursion IsReadBack (manifests_from m l.ids l.number rest)
          → AllByRecursion IsReadBack (manifests_from m l.ids 0 (all_seen l.groups));
      writable : AllByRecursion (CanWrite m l.ids) rest;
    }
