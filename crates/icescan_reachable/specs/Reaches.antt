-- Which files a table reaches (Apache Iceberg table spec v2, "Table Metadata", "Table Statistics", "Snapshots",
-- "Manifest Lists" and "Manifests"): what its metadata names, the manifest lists of all its snapshots, whether or not a
-- branch or tag names them, the manifests of these lists, and the data files and delete files of their live entries. A
-- file that every snapshot has deleted is not reached, though an entry of status 2 names it still.
use Rattle.std.specs.Prelude.{◌≡◌, ◌⊎◌, ℕ, List, codes, Some}
use Rattle.std.specs.List.{Contains}
use Rattle.serde_json.specs.Data as json
use Rattle.serde_json.specs.Data.{Data, Items}
use Rattle.serde_json.specs.Find.{get}
use Rattle.ice_desk.specs.Given.{AreOf, Giving}
use Rattle.ice_manifest_reading.specs.declared.entry.Live.{Live}
use Rattle.ice_manifest_reading.specs.declared.row.Row.{Row}
use Rattle.ice_meta.specs.Targets.{Described}
use Rattle.ice_meta.specs.declared.snapshot.Snapshot.{Snapshot}
use Rattle.ice_state.specs.Contents.{World}
use Rattle.icescan_reachable.specs.Given.{AreLinesGiven, AreLiveGiven}
use Rattle.icescan_reachable.specs.Lines.{kind_of, line}
use Rattle.icescan_reachable.specs.Named.{path_in}
use Rattle.icescan_reachable.specs.declared.kind.FileKind.{FileKind}
use Rattle.icescan_reachable.specs.declared.kind.FileKind.TheVariants as kind
use Rattle.icescan_text.specs.Reads.{AreRowsGiven}

-- the items of an array of the metadata name the path by a member
abbrev pub Names : List ℕ → Items → List ℕ → Type 0
Names member json.no_items path = ⊥
Names member (json.item item items) path = (path_in member item ≡ Some path) ⊎ Names member items path

abbrev pub IsNamed : List ℕ → List ℕ → Data → List ℕ → Type 0
IsNamed array member metadata path =
    (items : Items) × (get array metadata ≡ Some (json.array items)) × Names member items path

module _ (gives : Giving) (metadata : Described) where
  -- a row of the manifest list of one of the snapshots
  abbrev pub HasRow : Row → Type 0
  HasRow row = (snapshot : Snapshot) × Contains metadata.table.snapshots snapshot
      × (list : List ℕ) × (snapshot.manifest_list ≡ Some list)
      × (rows : List Row) × AreRowsGiven gives list rows × Contains rows row

  -- a live entry of the manifest of such a row
  abbrev pub HasLive : Live → Type 0
  HasLive live = (row : Row) × HasRow row × (found : List Live) × AreLiveGiven gives row found × Contains found live

  -- its file, which is so to the table
  abbrev pub HasFile : FileKind → List ℕ → Type 0
  HasFile kind path = (live : Live) × HasLive live × (kind_of live.entry.file.content ≡ kind)
      × (live.entry.file.path ≡ path)

  -- the files that the metadata at a path reaches, by what they are to the table
  abbrev pub Reaches : List ℕ → FileKind → List ℕ → Type 0
  Reaches own kind.Metadata path =
      (path ≡ own) ⊎ IsNamed (codes "metadata-log") (codes "metadata-file") metadata.json path
  Reaches own kind.List path =
      (snapshot : Snapshot) × Contains metadata.table.snapshots snapshot × (snapshot.manifest_list ≡ Some path)
  Reaches own kind.Manifest path = (row : Row) × HasRow row × (row.path ≡ path)
  Reaches own kind.Data path = HasFile kind.Data path
  Reaches own kind.Delete path = HasFile kind.Delete path
  Reaches own kind.Statistics path = IsNamed (codes "statistics") (codes "statistics-path") metadata.json path
      ⊎ IsNamed (codes "partition-statistics") (codes "statistics-path") metadata.json path

-- each line is that of a file that is reached
abbrev pub TellsOnlyReached : Giving → Type 0
TellsOnlyReached gives = (path : List ℕ) (metadata : Described) (lines : List (List ℕ)) (text : List ℕ)
    → AreLinesGiven gives path metadata lines → Contains lines text
    → (kind : FileKind) × (file : List ℕ) × Reaches gives metadata path kind file × (text ≡ line kind file)

-- where reads give what a world has, each file that is reached has its line
abbrev pub TellsAllReached : Giving → Type 0
TellsAllReached gives = (world : World) (path : List ℕ) (metadata : Described) (lines : List (List ℕ))
    (kind : FileKind) (file : List ℕ) → AreOf gives world → AreLinesGiven gives path metadata lines
    → Reaches gives metadata path kind file → Contains lines (line kind file)
