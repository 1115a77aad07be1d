-- What a request selects of a table: Apache Iceberg table spec, version 2, "Snapshot References", "Partition Specs" and
-- "Scan Planning".
use Rattle.std.specs.Prelude.{◌≡◌, ℕ, List, [], Option, Some, None, Result, Ok}
use Rattle.contract_words.specs.Outcome.{◌>>=◌}
use Rattle.ice_filter.specs.Binding.{bound_parts}
use Rattle.ice_filter.specs.Parsing.{mapped, parsed}
use Rattle.ice_filter.specs.declared.bound.BoundPredicate.{BoundPredicate}
use Rattle.ice_filter.specs.declared.fault.FilterFault.{FilterFault}
use Rattle.ice_filter.specs.declared.predicate.Predicate.{Predicate}
use Rattle.ice_filter.specs.declared.parts.Part.{Part}
use Rattle.ice_meta.specs.declared.metadata.Target.{Target}
use Rattle.ice_meta.specs.declared.schema.Schema.{Schema}
use Rattle.ice_meta.specs.declared.spec.Spec.{Spec}
use Rattle.ice_meta.specs.declared.table.Table.{Table}
use Rattle.ice_meta.specs.Targets.{bound_specs, list_of, metadata_of}
use Rattle.icescan_text.specs.Faults.{of_filter, of_meta}
use Rattle.icescan_text.specs.Reads.{as_run, schema_of}
use Rattle.icescan_text.specs.declared.fault.RunFault.{RunFault}
use Rattle.icescan_text.specs.declared.fault.RunFault.TheVariants as run
use Rattle.icescan_text.specs.declared.request.Request.{Request}
use Rattle.icescan_requests.specs.declared.selection.Selection.{Selection}

-- the parts of the filter's text, where there is one
abbrev pub parts_in : Option (List ℕ) → Result (Option (List (Part Predicate))) FilterFault
parts_in None = Ok None
parts_in (Some text) = mapped Some (parsed text)

-- the filter over the ids of a schema's columns; without a text it has no parts, and every row meets it
abbrev pub bound_in : Schema → Option (List (Part Predicate)) → Result (List (Part BoundPredicate)) FilterFault
bound_in schema None = Ok []
bound_in schema (Some parts) = bound_parts schema parts

-- What a snapshot of a table and a filter select, or the first refusal: that of the snapshot, or of what the filter
-- asks of the schema.
unfoldable pub selected_by : Table → Target → Option (List (Part Predicate)) → Result Selection RunFault
selected_by table target parts = do
  list ← as_run of_meta (list_of target table)
  schema ← as_run of_meta (schema_of target table)
  filter ← as_run of_filter (bound_in schema parts)
  Ok (record { list = list; specs = bound_specs schema table; filter = record { parts = filter } })

-- What a request selects, or the first refusal: of the metadata, of the filter's text, of the snapshot that is asked
-- for, of what the filter asks of the schema.
unfoldable pub selected : List ℕ → Request → Result Selection RunFault
selected metadata request = do
  described ← as_run of_meta (metadata_of metadata)
  parts ← as_run of_filter (parts_in request.filter)
  selected_by described.table request.target parts

-- these are the specs of what a request selects
abbrev pub AreSelected : List ℕ → Request → List Spec → Type 0
AreSelected metadata request specs =
    (selection : Selection) × (selected metadata request ≡ Ok selection) × (specs ≡ selection.specs)

-- the faults of a request and its metadata
abbrev pub IsOfRequest : RunFault → Type 0
IsOfRequest (run.Metadata fault) = Unit {0}
IsOfRequest (run.Filter fault) = Unit {0}
IsOfRequest run.Memory = Unit {0}
IsOfRequest _ = ⊥
