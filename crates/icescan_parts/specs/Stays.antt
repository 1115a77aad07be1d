-- Which files a table reaches without some of its snapshots: what `Reaches` says of the metadata without them, but for
-- statistics, which name their snapshot and go with it.
use Rattle.std.specs.Prelude.{◌≡◌, ◌⊎◌, ℕ, ℤ, false, List, codes, Some}
use Rattle.std.specs.List.{Contains}
use Rattle.serde_json.specs.Data as json
use Rattle.serde_json.specs.Data.{Data, Items}
use Rattle.serde_json.specs.Find.{get}
use Rattle.ice_desk.specs.Given.{AreOf, Giving}
use Rattle.ice_meta.specs.Targets.{Described}
use Rattle.ice_state.specs.Contents.{World}
use Rattle.icescan_parts.specs.Alone.{alone}
use Rattle.icescan_parts.specs.Gone.{kept, names_gone}
use Rattle.icescan_parts.specs.Kept.{AreLinesKept}
use Rattle.icescan_parts.specs.Parts.{Tells}
use Rattle.icescan_reachable.specs.Lines.{line}
use Rattle.icescan_reachable.specs.Named.{path_in}
use Rattle.icescan_reachable.specs.Reaches.{Reaches}
use Rattle.icescan_reachable.specs.declared.kind.FileKind.{FileKind}
use Rattle.icescan_reachable.specs.declared.kind.FileKind.TheVariants as kind

-- the metadata without the snapshots that go
abbrev pub thinned : List ℤ → Described → Described
thinned gone metadata =
    record metadata { table = record metadata.table { snapshots = kept gone metadata.table.snapshots } }

-- an item that names no snapshot that goes names the path of its statistics
abbrev pub NamesKept : List ℤ → Items → List ℕ → Type 0
NamesKept gone json.no_items path = ⊥
NamesKept gone (json.item item items) path =
    ((names_gone gone item ≡ false) × (path_in (codes "statistics-path") item ≡ Some path)) ⊎ NamesKept gone items path

abbrev pub IsKept : List ℤ → List ℕ → Data → List ℕ → Type 0
IsKept gone array metadata path =
    (items : Items) × (get array metadata ≡ Some (json.array items)) × NamesKept gone items path

module _ (gives : Giving) (gone : List ℤ) (metadata : Described) (own : List ℕ) where
  abbrev pub Stays : FileKind → List ℕ → Type 0
  Stays kind.Metadata path = Reaches gives (thinned gone metadata) own kind.Metadata path
  Stays kind.List path = Reaches gives (thinned gone metadata) own kind.List path
  Stays kind.Manifest path = Reaches gives (thinned gone metadata) own kind.Manifest path
  Stays kind.Data path = Reaches gives (thinned gone metadata) own kind.Data path
  Stays kind.Delete path = Reaches gives (thinned gone metadata) own kind.Delete path
  Stays kind.Statistics path = IsKept gone (codes "statistics") metadata.json path
      ⊎ IsKept gone (codes "partition-statistics") metadata.json path

-- each line of what stays is that of a file that stays
abbrev pub TellsOnlyKept : Giving → Type 0
TellsOnlyKept gives = (gone : List ℤ) (path : List ℕ) (metadata : Described) (rest : List (List ℕ)) (text : List ℕ)
    → AreLinesKept gives gone path metadata rest → Contains rest text
    → (kind : FileKind) × (file : List ℕ) × Stays gives gone metadata path kind file × (text ≡ line kind file)

-- where reads give what a world has, each file that stays has its line, and is none of those that are let go
abbrev pub TellsAllKept : Giving → Type 0
TellsAllKept gives = (world : World) (gone : List ℤ) (path : List ℕ) (metadata : Described) (rest : List (List ℕ))
    (kind : FileKind) (file : List ℕ) → AreOf gives world → AreLinesKept gives gone path metadata rest
    → Stays gives gone metadata path kind file → Tells rest file

abbrev pub LetsGoNoneKept : Giving → Type 0
LetsGoNoneKept gives = (world : World) (gone : List ℤ) (path : List ℕ) (metadata : Described)
    (all rest : List (List ℕ)) (kind : FileKind) (file : List ℕ) → AreOf gives world
    → AreLinesKept gives gone path metadata rest → Stays gives gone metadata path kind file
    → Tells (alone all rest) file → ⊥
