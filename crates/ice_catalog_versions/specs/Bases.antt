-- What a commit is made on: the manifest list of the current snapshot, the rows of that list, and their live entries
-- (Apache Iceberg table spec v2, "Snapshots", "Manifest Lists" and "Scan Planning").
use Rattle.std.specs.Prelude.{ℕ, ℤ, List, [], find, Option, None, Some, Result, unwrap_or}
use Rattle.std.specs.List.{flat_map}
use Rattle.std.specs.Option.{option_and_then}
use Rattle.std.specs.Ordering.{int_eq}
use Rattle.std.specs.Result.{result_ok}
use Rattle.std.specs.FinMap.{get}
use Rattle.ice_meta.specs.declared.metadata.Target.TheVariants as target
use Rattle.ice_meta.specs.declared.schema.Schema.{Schema}
use Rattle.ice_meta.specs.declared.spec.Spec.{Spec}
use Rattle.ice_meta.specs.declared.table.Table.{Table}
use Rattle.ice_meta.specs.Targets.{bound_specs, list_of, schema_for}
use Rattle.ice_manifest_reading.specs.declared.entry.Entry.{Entry}
use Rattle.ice_manifest_reading.specs.declared.row.Row.{Row}
use Rattle.ice_manifest_reading.specs.Lists.{rows_of}
use Rattle.ice_manifest_reading.specs.Manifests.{entries_of}
use Rattle.ice_catalog_versions.specs.declared.world.World.{World}

-- ---- partition specs

abbrev pub specs_under : Option Schema → Table → List Spec
specs_under None t = []
specs_under (Some schema) t = bound_specs schema t

-- the partition specs of the table, with the types that their source columns have in the current schema
unfoldable pub table_specs : Table → List Spec
table_specs t = specs_under (schema_for target.Main t) t

-- the spec of an id
abbrev pub spec_in : List Spec → ℤ → Option Spec
spec_in specs id = find (λ (spec : Spec). int_eq spec.id id) specs

-- ---- lists and manifests

-- what is read of the file at a path; nothing where it is absent or refused
abbrev pub read_at : {X E : Type 0} → World → (List ℕ → Result X E) → List ℕ → Option X
read_at world read path = option_and_then (λ bytes. result_ok (read bytes)) (get world path)

-- the path of the current snapshot's manifest list; a table without a current snapshot has none
abbrev pub current_list : Table → Option (List ℕ)
current_list t = result_ok (list_of target.Main t)

abbrev pub rows_at : World → Option (List ℕ) → Option (List Row)
rows_at world None = Some []
rows_at world (Some path) = read_at world rows_of path

-- the rows of the current snapshot, in the order of their paths; nothing where its list can't be read
abbrev pub current_rows : World → Table → Option (List Row)
current_rows world t = rows_at world (current_list t)

-- the live entries of a row's manifest; nothing where it can't be read or its spec is unknown
abbrev pub manifest_at : World → List Spec → Row → Option (List Entry)
manifest_at world specs row =
    option_and_then (λ spec. read_at world (entries_of row spec) row.path) (spec_in specs row.spec_id)

abbrev pub live_at : World → List Spec → Row → List Entry
live_at world specs row = unwrap_or (manifest_at world specs row) []

-- the rows of the current snapshot, where they can be read
abbrev pub base_rows : World → Table → List Row
base_rows world t = unwrap_or (current_rows world t) []

-- the live entries of rows, row by row
abbrev pub live_in : World → List Spec → List Row → List Entry
live_in world specs rows = flat_map (live_at world specs) rows

-- the live entries of the current snapshot
abbrev pub live_entries : World → Table → List Entry
live_entries world t = live_in world (table_specs t) (base_rows world t)
