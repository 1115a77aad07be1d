-- The names of the files that a commit adds: its uuid is in each (Apache Iceberg table spec v2, "File System
-- Operations": files are not altered once they are written).
use Rattle.std.specs.Prelude.{◌≡◌, ◌++◌, ℕ, List, Some}
use Rattle.std.specs.FinMap.{get}
use Rattle.std.specs.List.{Contains}
use Rattle.ice_catalog_changes.specs.declared.change.Commit.{Commit}
use Rattle.ice_catalog_changes.specs.NewFiles.{uuid_text}
use Rattle.ice_catalog_versions.specs.declared.world.World.{World}
use Rattle.ice_catalog_versions.specs.Adding.{added}
use Rattle.ice_catalog_versions.specs.States.{State}
use Rattle.ice_catalog_versions.specs.Staying.{IsNewTo}

-- the text is a part of the path
abbrev pub IsPartOf : List ℕ → List ℕ → Type 0
IsPartOf text path = (front rest : List ℕ) × (path ≡ front ++ text ++ rest)

-- it is no part of the path of a file that is there
abbrev pub IsInNoPath : List ℕ → World → Type 0
IsInNoPath text w = (path bytes : List ℕ) → get w path ≡ Some bytes → IsPartOf text path → ⊥

-- The path of each file that a commit adds has the text of its uuid.
abbrev pub CarriesItsUuid : Type 0
CarriesItsUuid = (s : State) (c : Commit) (path bytes : List ℕ) → Contains (added s c) (path, bytes)
    → IsPartOf (uuid_text c.ids) path

-- So where no path has it, the files that the commit adds take the place of none.
abbrev pub MakesNewNames : Type 0
MakesNewNames = (s : State) (c : Commit) → IsInNoPath (uuid_text c.ids) s.world → IsNewTo s c
