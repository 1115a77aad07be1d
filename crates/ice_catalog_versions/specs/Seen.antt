-- Groups of files as they are kept.
use Rattle.std.specs.Prelude.{List, map}
use Rattle.ice_manifest.specs.Adding.{lent}
use Rattle.ice_catalog_versions.specs.declared.groups.Group as kept
use Rattle.ice_catalog_versions.specs.Groups.{Group}

abbrev pub seen : kept.Group → Group
seen group = record { content = group.content; spec_id = group.spec_id; files = lent group.files.items }

abbrev pub all_seen : List kept.Group → List Group
all_seen groups = map seen groups
