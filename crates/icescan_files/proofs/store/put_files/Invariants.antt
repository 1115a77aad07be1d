use Rattle.std.proofs.Common.{ℕ, List, take}
use Rattle.icescan_files.specs.Disks.{ArePlaced, Extends}
use Rattle.icescan_files.specs.Stores.{PutsAll, WereFree}
use Rattle.icescan_files.proofs.store.put_files.Given as goal

-- the files so far were put, each where none stood, and placed on the disk
abbrev pub invariant-files : goal.invariant-files
invariant-files g l =
    PutsAll (g.S.Store.files l.fn.store) (g.S.Store.files l.store) (take l.file-index l.files)
    × WereFree (g.S.Store.files l.fn.store) (take l.file-index l.files)
    × (g.S.Store.may_fail l.store → g.S.Store.may_fail l.fn.store)
    × Extends (g.S.Store.events l.fn.store) (g.S.Store.events l.store)
    (ArePlaced (g.S.Store.names l.fn.store) (take l.file-index l.files))
    × ((path name aside : List ℕ) → g.S.Store.names l.store path name aside
    → g.S.Store.names l.fn.store path name aside)
