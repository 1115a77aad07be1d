-- What commits leave as it was, where the files that they add take the place of none: so it is where each has a uuid of
-- its own (Apache Iceberg table spec v2, "File System Operations": files are not altered once they are written).
use Rattle.std.specs.Prelude.{◌≡◌, ℕ, List, [], ◌∷◌, Option, Some, None}
use Rattle.std.specs.FinMap.{get}
use Rattle.std.specs.List.{AllByRecursion}
use Rattle.ice_manifest_reading.specs.declared.entry.Entry.{Entry}
use Rattle.ice_manifest_reading.specs.declared.row.Row.{Row}
use Rattle.ice_manifest_reading.specs.Lists.{rows_of}
use Rattle.ice_catalog_changes.specs.declared.change.Commit.{Commit}
use Rattle.ice_catalog_versions.specs.Adding.{added}
use Rattle.ice_catalog_versions.specs.Bases.{manifest_at, read_at, table_specs}
use Rattle.ice_catalog_versions.specs.Histories.{replay, step}
use Rattle.ice_catalog_versions.specs.States.{State}

-- no file that the commit adds takes the place of one that is there
abbrev pub IsNewTo : State → Commit → Type 0
IsNewTo s c = AllByRecursion (λ (f : List ℕ × List ℕ). get s.world f.0 ≡ None) (added s c)

-- nor does one of any of these commits, each on what those before it leave
abbrev pub AreNewTo : Option State → List Commit → Type 0
AreNewTo s [] = Unit {0}
AreNewTo None (c ∷ cs) = Unit {0}
AreNewTo (Some s) (c ∷ cs) = IsNewTo s c × AreNewTo (step (Some s) c) cs

-- the commits lead from the one state to the other, and are so
abbrev pub LeadTo : State → List Commit → State → Type 0
LeadTo s cs t = AreNewTo (Some s) cs × (replay (Some s) cs ≡ Some t)

-- each file is there still
abbrev pub KeepsFiles : Type 0
KeepsFiles = (s t : State) (cs : List Commit) (path bytes : List ℕ) → LeadTo s cs t
    → get s.world path ≡ Some bytes → get t.world path ≡ Some bytes

-- each manifest list has the same rows
abbrev pub KeepsRows : Type 0
KeepsRows = (s t : State) (cs : List Commit) (path : List ℕ) (rows : List Row) → LeadTo s cs t
    → read_at s.world rows_of path ≡ Some rows → read_at t.world rows_of path ≡ Some rows

-- each manifest has the same live entries, with the same numbers
abbrev pub KeepsEntries : Type 0
KeepsEntries = (s t : State) (cs : List Commit) (row : Row) (found : List Entry) → LeadTo s cs t
    → manifest_at s.world (table_specs s.metadata.table) row ≡ Some found
    → manifest_at t.world (table_specs t.metadata.table) row ≡ Some found
