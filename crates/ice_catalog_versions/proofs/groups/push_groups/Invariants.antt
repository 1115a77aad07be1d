use Rattle.std.proofs.Common.{◌≡◌, ◌++◌, drop, map}
use Rattle.ice_catalog_versions.specs.Groups.{group_of}
use Rattle.ice_catalog_versions.specs.Seen.{all_seen}
use Rattle.ice_catalog_versions.proofs.groups.push_groups.Given as goal

abbrev pub invariant-ids : goal.invariant-ids
invariant-ids l = all_seen l.groups.items ++ map (group_of l.content l.files) (drop l.id-index l.id-items) ≡ all_seen
    l.fn.groups.items ++ map (group_of l.content l.files) l.id-items
