use Rattle.std.proofs.Common.{◌≡◌, filter, map, take}
use Rattle.std.specs.List.{All}
use Rattle.icescan_locate.specs.Dated.{IsDated, is_metadata}
use Rattle.icescan_locate.specs.declared.dated.DatedFile.{DatedFile}
use Rattle.icescan_locate.proofs.dated.dated_files.Given as goal

-- the metadata files among the names so far
abbrev pub invariant-names : goal.invariant-names
invariant-names g l = (map (λ (f : DatedFile). f.name) l.found.items ≡ filter is_metadata (take l.name-index l.names))
    × All (IsDated (g.F.Files.gives l.files) l.folder) l.found.items
