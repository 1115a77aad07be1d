-- Rows that are handed out as they were taken, and rows that are put in.
use Rattle.std.specs.Prelude.{◌≤◌, List, length, map, IfSome}
use Rattle.std.specs.List.{AllByRecursion}
use Rattle.ice_manifest_reading.specs.declared.entry.Entry.{Entry}
use Rattle.ice_manifest_reading.specs.Lending.{lent}
use Rattle.ice_state.specs.declared.kept.handing.Given.{Given}
use Rattle.ice_state.specs.declared.kept.handing.Given.TheVariants as given
use Rattle.ice_state.specs.Readings.{Reading, Good, Bad}

-- what the row gave that is handed out
abbrev pub handed : Given → Reading
handed (given.Good entries) = Good (map lent entries.items)
handed (given.Bad fault) = Bad fault.now

-- the paths of the entry's file have at most 65,535 bytes
abbrev pub HasShortPaths : Entry → Type 0
HasShortPaths x = (length x.file.path ≤ 65535) × IfSome x.file.referenced (λ path. length path ≤ 65535)

abbrev pub HaveShortPaths : List Entry → Type 0
HaveShortPaths entries = AllByRecursion HasShortPaths entries
