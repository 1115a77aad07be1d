-- The lines of the files that a table reaches without some of its snapshots. Statistics name their snapshot, and go
-- with it.
use Rattle.std.specs.Prelude.{ℕ, ℤ, Bool, true, false, List, [], ◌∷◌, ◌++◌, codes, Option, Some, None}
use Rattle.std.specs.Prelude.{if◌then◌else◌, option_and_then, option_map}
use Rattle.std.specs.List.{flat_map, list_any}
use Rattle.std.specs.Ordering.{int_eq}
use Rattle.serde_json.specs.Data as json
use Rattle.serde_json.specs.Data.{Data, Items}
use Rattle.serde_json.specs.Find.{as_i64, as_number, get}
use Rattle.ice_meta.specs.declared.snapshot.Snapshot.{Snapshot}
use Rattle.icescan_reachable.specs.Lines.{line}
use Rattle.icescan_reachable.specs.Named.{logged_in, path_in}
use Rattle.icescan_reachable.specs.declared.kind.FileKind.TheVariants as kind

-- a snapshot is among those that go
abbrev pub is_gone : List ℤ → ℤ → Bool
is_gone gone id = list_any (λ other. int_eq other id) gone

-- nothing where it is so, and else this
abbrev pub unless : {X : Type 0} → Bool → X → List X
unless true x = []
unless false x = x ∷ []

-- the snapshots that stay
abbrev pub kept : List ℤ → List Snapshot → List Snapshot
kept gone snapshots = flat_map (λ (s : Snapshot). unless (is_gone gone s.id) s) snapshots

-- an item of an array of statistics names a snapshot that goes
abbrev pub snapshot_in : Data → Option ℤ
snapshot_in item = option_and_then (λ value. option_and_then as_i64 (as_number value)) (get (codes "snapshot-id") item)

abbrev pub is_some_gone : List ℤ → Option ℤ → Bool
is_some_gone gone None = false
is_some_gone gone (Some id) = is_gone gone id

abbrev pub names_gone : List ℤ → Data → Bool
names_gone gone item = is_some_gone gone (snapshot_in item)

-- lines, with that of an item's statistics behind them if their snapshot stays
abbrev pub item_behind : List ℤ → List (List ℕ) → Data → Option (List (List ℕ))
item_behind gone lines item = if names_gone gone item then Some lines
    else option_map (λ path. lines ++ line kind.Statistics path ∷ []) (path_in (codes "statistics-path") item)

-- the same of items, and of an array, which may be left out or null
abbrev pub items_kept : List ℤ → List (List ℕ) → Items → Option (List (List ℕ))
items_kept gone lines json.no_items = Some lines
items_kept gone lines (json.item item items) =
    option_and_then (λ more. items_kept gone more items) (item_behind gone lines item)

abbrev pub array_kept : List ℤ → List (List ℕ) → Option Data → Option (List (List ℕ))
array_kept gone lines None = Some lines
array_kept gone lines (Some json.null) = Some lines
array_kept gone lines (Some (json.array items)) = items_kept gone lines items
array_kept gone lines (Some _) = None

abbrev pub statistics_kept : List ℤ → List ℕ → Data → List (List ℕ) → Option (List (List ℕ))
statistics_kept gone array metadata lines = array_kept gone lines (get array metadata)

-- the lines of the metadata at a path and of the files that it names itself, but for statistics of snapshots that go
unfoldable pub own_kept : List ℤ → List ℕ → Data → Option (List (List ℕ))
own_kept gone path metadata =
    option_and_then (statistics_kept gone (codes "partition-statistics") metadata)
    (option_and_then (statistics_kept gone (codes "statistics") metadata) (logged_in path metadata))
