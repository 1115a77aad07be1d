use Rattle.std.proofs.Common.{◌++◌, List, take}
use Rattle.ice_manifest_reading.specs.declared.entry.Entry.{Entry}
use Rattle.ice_state.specs.ByKind.{HasFilesOf}
use Rattle.ice_state.specs.Segments.{entries_at}
use Rattle.ice_state.proofs.finish.by_kind.push_files.Given as goal

abbrev pub invariant-files : goal.invariant-files
invariant-files l = (xs : List Entry) → HasFilesOf l.entries xs l.fn.found →
    HasFilesOf l.entries (xs ++ entries_at l.entries (take l.file-index l.files)) l.found
