-- A request that has a plan has an expression.
use Rattle.std.proofs.Common.{◌≡◌, ℕ, List, Option, None, Some, refl}
use Rattle.std.specs.Prelude.{Result, Ok, Err}
use Rattle.ice_filter.specs.declared.fault.FilterFault.{FilterFault}
use Rattle.ice_filter.specs.declared.parts.Part.{Part}
use Rattle.ice_filter.specs.declared.predicate.Predicate.{Predicate}
use Rattle.ice_filter.specs.Parsing.{mapped, parsed}
use Rattle.ice_filter.specs.Trees.{tree_of}
use Rattle.ice_meta.specs.Targets.{Described, list_of, metadata_of}
use Rattle.ice_meta.specs.declared.metadata.Target.{Target}
use Rattle.ice_meta.specs.declared.schema.Schema.{Schema}
use Rattle.serde_json.specs.Written.{compact_text}
use Rattle.icescan_text.specs.Faults.{of_filter, of_meta}
use Rattle.icescan_text.specs.Reads.{as_run, schema_of}
use Rattle.icescan_text.specs.declared.request.Request.{Request}
use Rattle.icescan_text.proofs.Steps.{step}
use Rattle.icescan_requests.specs.Selections.{parts_in, selected, selected_by}
use Rattle.icescan_requests.specs.declared.selection.Selection.{Selection}
use Rattle.icescan_json.specs.Expressions.{asked_text, every_row_text, expression_json, filter_text, text_if_asked}

-- the filter of a text that there is
parts_there : (read : Result (List (Part Predicate)) FilterFault) (found : Option (List (Part Predicate)))
    → as_run of_filter (mapped Some read) ≡ Ok found → (parts : List (Part Predicate)) × (as_run of_filter read ≡ Ok parts)
parts_there (Ok parts) found h = (parts, refl)
parts_there (Err fault) found h = absurd cc

there : (metadata : List ℕ) (target : Target) (described : Described) (schema : Schema)
    → as_run of_meta (metadata_of metadata) ≡ Ok described
    → as_run of_meta (schema_of target described.table) ≡ Ok schema
    → (f : Option (List ℕ)) (found : Option (List (Part Predicate))) → as_run of_filter (parts_in f) ≡ Ok found
    → (text : List ℕ) × (text_if_asked metadata target f ≡ Ok text)
unfolding filter_text
there metadata target described schema is by None found h = (every_row_text, refl)
there metadata target described schema is by (Some text) found h =
    let q = parts_there (parsed text) found h in
    (compact_text (expression_json schema (tree_of q.0)), rw (is, q.1, by) refl)

pub asked_there : (metadata : List ℕ) (request : Request) (selection : Selection)
    → selected metadata request ≡ Ok selection → (text : List ℕ) × (asked_text metadata request ≡ Ok text)
unfolding asked_text selected selected_by
asked_there metadata request selection h =
    let d = step (as_run of_meta (metadata_of metadata)) _ selection h in
    let p = step (as_run of_filter (parts_in request.filter)) _ selection d.2 in
    let l = step (as_run of_meta (list_of request.target d.0.table)) _ selection p.2 in
    let s = step (as_run of_meta (schema_of request.target d.0.table)) _ selection l.2 in
    there metadata request.target d.0 s.0 d.1 s.1 request.filter p.0 p.1
