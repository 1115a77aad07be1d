use Rattle.std.proofs.Common.{◌≡◌, drop, Some}
use Rattle.ice_catalog_versions.specs.declared.world.World.{World as Kept}
use Rattle.ice_state.specs.Contents.{World}
use Rattle.icescan_commits.specs.Commits.{keep_all}
use Rattle.icescan_commits.specs.GivenCommits.{WereKept}
use Rattle.icescan_commits.proofs.base.keep_files.Given as goal

-- those kept so far, and those of what is left, are those of all
abbrev pub invariant-loop-path : goal.invariant-loop-path
invariant-loop-path g l = ((world : World) → g.F.Files.world l.files ≡ Some world
    → keep_all world (drop l.path-index l.paths) l.kept ≡ keep_all world l.paths l.fn.kept)
    × ((kept : Kept) → WereKept (g.F.Files.gives l.files) (drop l.path-index l.paths) l.kept kept
    → WereKept (g.F.Files.gives l.files) l.paths l.fn.kept kept)
