-- The lines of the files that metadata names itself (Apache Iceberg table spec v2, "Table Metadata" and "Table
-- Statistics"): older metadata in its log, and files of statistics. None where an item of these arrays names no file.
use Rattle.std.specs.Prelude.{ℕ, List, [], ◌∷◌, ◌++◌, codes, Option, Some, None, option_and_then}
use Rattle.serde_json.specs.Data as json
use Rattle.serde_json.specs.Data.{Data, Items}
use Rattle.serde_json.specs.Find.{as_str, get}
use Rattle.icescan_reachable.specs.Lines.{line}
use Rattle.icescan_reachable.specs.declared.kind.FileKind.{FileKind}
use Rattle.icescan_reachable.specs.declared.kind.FileKind.TheVariants as kind

-- the path that an item names by a member
abbrev pub path_in : List ℕ → Data → Option (List ℕ)
path_in member item = option_and_then as_str (get member item)

-- lines, with those of the files behind them that items name by a member
abbrev pub items_behind : FileKind → List ℕ → List (List ℕ) → Items → Option (List (List ℕ))
items_behind kind member lines json.no_items = Some lines
items_behind kind member lines (json.item item items) =
    option_and_then (λ path. items_behind kind member (lines ++ line kind path ∷ []) items) (path_in member item)

-- the same of the items of an array, which may be left out or null
abbrev pub array_behind : FileKind → List ℕ → List (List ℕ) → Option Data → Option (List (List ℕ))
array_behind kind member lines None = Some lines
array_behind kind member lines (Some json.null) = Some lines
array_behind kind member lines (Some (json.array items)) = items_behind kind member lines items
array_behind kind member lines (Some _) = None

abbrev pub named_behind : List ℕ → List ℕ → FileKind → Data → List (List ℕ) → Option (List (List ℕ))
named_behind array member kind metadata lines = array_behind kind member lines (get array metadata)

-- the lines of the metadata at a path and of the files that it names itself
abbrev pub logged_in : List ℕ → Data → Option (List (List ℕ))
logged_in path metadata = named_behind (codes "metadata-log") (codes "metadata-file") kind.Metadata metadata
    (line kind.Metadata path ∷ [])

unfoldable pub own_lines : List ℕ → Data → Option (List (List ℕ))
own_lines path metadata =
    option_and_then (named_behind (codes "partition-statistics") (codes "statistics-path") kind.Statistics metadata)
    (option_and_then (named_behind (codes "statistics") (codes "statistics-path") kind.Statistics metadata)
    (logged_in path metadata))
