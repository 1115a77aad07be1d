-- No orphan is reached.
use Rattle.std.specs.Prelude.{◌≢◌, ℕ, List, ◌++◌, map}
use Rattle.std.specs.List.{Contains}
use Rattle.ice_desk.specs.Given.{AreOf, Giving}
use Rattle.ice_meta.specs.Targets.{Described}
use Rattle.ice_state.specs.Contents.{World}
use Rattle.icescan_parts.specs.Told.{path_told}
use Rattle.icescan_paths.specs.Spelling.{plain}
use Rattle.icescan_paths.specs.Strays.{strays}
use Rattle.icescan_paths.specs.declared.aged.AgedFile.{AgedFile}
use Rattle.icescan_paths.specs.declared.aged.StrayKind.TheVariants as stray
use Rattle.icescan_reachable.specs.Given.{AreLinesGiven}
use Rattle.icescan_reachable.specs.Reaches.{Reaches}
use Rattle.icescan_reachable.specs.declared.kind.FileKind.{FileKind}

-- Where reads give what a world has, an orphan beside lines of what metadata reaches is no file that it reaches,
-- whatever that is to the table, nor another spelling of its path.
abbrev pub AreNotReached : Giving → Type 0
AreNotReached gives = (world : World) (path : List ℕ) (metadata : Described) (lines more : List (List ℕ)) (older : ℕ)
    (found : List AgedFile) (kind : FileKind) (file orphan : List ℕ) → AreOf gives world
    → AreLinesGiven gives path metadata lines
    → Contains (strays (map path_told lines ++ more) older found) (record { kind = stray.Orphan; path = orphan })
    → Reaches gives metadata path kind file → plain file ≢ plain orphan
