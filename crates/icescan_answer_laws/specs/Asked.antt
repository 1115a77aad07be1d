-- What a request asks of a table: a snapshot, and a filter in the words of its text.
use Rattle.std.specs.Prelude.{◌≡◌, ℕ, Bool, true, List, Option, Some, None, Ok}
use Rattle.ice_filter.specs.Binding.{predicate_meets}
use Rattle.ice_filter.specs.Rows as table
use Rattle.ice_filter.specs.Trees.{meaning, tree_of}
use Rattle.ice_filter.specs.declared.predicate.Predicate.{Predicate}
use Rattle.ice_filter.specs.declared.parts.Part.{Part}
use Rattle.ice_meta.specs.Targets.{Described, metadata_of}
use Rattle.ice_meta.specs.declared.schema.Schema.{Schema}
use Rattle.ice_manifest_reading.specs.declared.row.Row.{Row}
use Rattle.ice_state.specs.Contents.{World}
use Rattle.icescan_text.specs.Reads.{rows_at, schema_of}
use Rattle.icescan_requests.specs.Selections.{parts_in, selected}
use Rattle.icescan_text.specs.declared.request.Request.{Request}
use Rattle.icescan_requests.specs.declared.selection.Selection.{Selection}

-- what the request selects of the table with this metadata, and the rows of the snapshot's manifest list
abbrev pub IsAsked : World → List ℕ → Request → Selection → List Row → Type 0
IsAsked world metadata request selection rows = (selected metadata request ≡ Ok selection)
    × (rows_at world selection.list ≡ Ok rows)

-- the filter that the request's text says, and the schema that counts for its snapshot
abbrev pub IsRead : List ℕ → Request → Schema → Option (List (Part Predicate)) → Type 0
IsRead metadata request schema parts = (d : Described) × (metadata_of metadata ≡ Ok d)
    × (parts_in request.filter ≡ Ok parts) × (schema_of request.target d.table ≡ Ok schema)

-- the row meets a filter over the names of a schema's columns; every row does where there is none
abbrev pub meets : Schema → Option (List (Part Predicate)) → table.Row → Bool
meets schema None row = true
meets schema (Some parts) row = meaning (predicate_meets schema row) (tree_of parts)
