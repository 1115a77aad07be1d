-- What two requests without filters select of one table.
use Rattle.std.proofs.Common.{◌≡◌, ℕ, Bool, true, false, ◌&&◌, List, [], refl, sym, ap, subst, ◌∙◌}
use Rattle.std.specs.Prelude.{Option, Some, None, Result, Ok, Err, is_none}
use Rattle.std.specs.List.Sorted.{IsStrictlySortedBy}
use Rattle.contract_words.specs.Outcome.{◌>>=◌}
use Rattle.ice_filter.specs.declared.bound.Bound.{Bound}
use Rattle.ice_filter.specs.declared.bound.BoundPredicate.{BoundPredicate}
use Rattle.ice_filter.specs.declared.parts.Part.{Part}
use Rattle.ice_filter.specs.declared.predicate.Predicate.{Predicate}
use Rattle.ice_manifest_reading.specs.Lists.{path_order}
use Rattle.ice_manifest_reading.specs.declared.row.Row.{Row}
use Rattle.ice_meta.specs.Targets.{Described, bound_specs, list_of, metadata_of}
use Rattle.ice_meta.specs.declared.schema.Schema.{Schema}
use Rattle.ice_meta.specs.declared.spec.Spec.{Spec}
use Rattle.icescan_requests.specs.Selections.{bound_in, parts_in, selected, selected_by}
use Rattle.icescan_requests.specs.declared.selection.Selection.{Selection}
use Rattle.icescan_text.proofs.Steps.{step}
use Rattle.icescan_text.specs.Faults.{of_filter, of_meta}
use Rattle.icescan_text.specs.Reads.{as_run, schema_of}
use Rattle.icescan_text.specs.declared.fault.RunFault.{RunFault}
use Rattle.icescan_text.specs.declared.request.Request.{Request}

-- what is selected without a filter
pub record SelectsAll (metadata : List ℕ) (s : Selection) : Type 0 where
  pub described : Described
  pub of_metadata : as_run of_meta (metadata_of metadata) ≡ Ok described
  pub schema : Schema
  pub specs : s.specs ≡ bound_specs schema described.table
  pub parts : s.filter.parts ≡ []

no_text : (text : Option (List ℕ)) (parts : Option (List (Part Predicate))) → is_none text ≡ true
    → as_run of_filter (parts_in text) ≡ Ok parts → parts ≡ None
no_text None parts h is = cc
no_text (Some text) parts h is = absurd cc

no_parts : (schema : Schema) (parts : Option (List (Part Predicate))) (bound : List (Part BoundPredicate))
    → parts ≡ None → as_run of_filter (bound_in schema parts) ≡ Ok bound → bound ≡ []
no_parts schema None bound h is = cc
no_parts schema (Some parts) bound h is = absurd cc

pub selects_all : (metadata : List ℕ) (request : Request) (s : Selection) → is_none request.filter ≡ true
    → selected metadata request ≡ Ok s → SelectsAll metadata s
unfolding selected selected_by
selects_all metadata request s none h =
    let described = step (as_run of_meta (metadata_of metadata)) _ s h in
    let parts = step (as_run of_filter (parts_in request.filter)) _ s described.2 in
    let list = step (as_run of_meta (list_of request.target described.0.table)) _ s parts.2 in
    let schema = step (as_run of_meta (schema_of request.target described.0.table)) _ s list.2 in
    let bound = step (as_run of_filter (bound_in schema.0 parts.0)) _ s schema.2 in
    let is : ◌≡◌ {A = Selection} (record {
      list = list.0;
      specs = bound_specs schema.0 described.0.table;
      filter = record { parts = bound.0 };
    }) s =
    cc bound.2 in
    record {
      described = described.0;
      of_metadata = described.1;
      schema = schema.0;
      specs = ap (λ (x : Selection). x.specs) (sym is);
      parts = ap (λ (x : Selection). x.filter.parts) (sym is)
          ∙ no_parts schema.0 parts.0 bound.0 (no_text request.filter parts.0 none parts.1) bound.1;
    }

pub one_described : {A : Type 0} (read : Result A RunFault) (x y : A) → read ≡ Ok x → read ≡ Ok y → x ≡ y
one_described read x y h k = let both : Ok x ≡ Ok y = sym h ∙ k in cc
