-- The filter of a relaxed request, and what has no row that may meet the filter itself.
use Rattle.std.proofs.Common.{◌≡◌, ℕ, true, false, List, [], ◌∷◌, Option, Some, None, Result, Ok, Err, refl, sym, ap}
use Rattle.std.proofs.Common.{◌∙◌, subst}
use Rattle.std.specs.List.{list_any}
use Rattle.std.proofs.lemmas.Bool.{or_parts}
use Rattle.ice_filter.specs.Binding.{predicate_meets}
use Rattle.ice_filter.specs.Parsing.{mapped, parsed}
use Rattle.ice_filter.specs.Rows as table
use Rattle.ice_filter.specs.Rows.{row_meets}
use Rattle.ice_filter.specs.Texts.{shown}
use Rattle.ice_filter.specs.Trees.{Tree, meaning, tree_of}
use Rattle.ice_filter.specs.declared.bound.BoundPredicate.{BoundPredicate}
use Rattle.ice_filter.specs.declared.fault.FilterFault.{FilterFault}
use Rattle.ice_filter.specs.declared.parts.Part.{Part}
use Rattle.ice_filter.specs.declared.predicate.Predicate.{Predicate}
use Rattle.ice_filter_relaxed.specs.Relaxing.{IsMetWhereTheFilterMayBe, IsReadFromItsText, MayMeet, relaxed}
use Rattle.ice_meta.specs.Targets.{Described, metadata_of}
use Rattle.ice_meta.specs.declared.metadata.Target.{Target}
use Rattle.ice_meta.specs.declared.schema.Schema.{Schema}
use Rattle.ice_project.specs.Honesty.{NoneMeets}
use Rattle.icescan_relaxed.specs.Requests.{relaxed_filter, relaxed_request, relaxed_text, relaxed_under}
use Rattle.icescan_relaxed.specs.declared.requests.RelaxedRequest.{RelaxedRequest}
use Rattle.icescan_requests.specs.Selections.{parts_in, selected}
use Rattle.icescan_requests.specs.declared.selection.Selection.{Selection}
use Rattle.icescan_text.specs.Reads.{schema_of}
use Rattle.icescan_text.specs.declared.request.Request.{Request}
use Rattle.icescan_answer_laws.specs.Asked.{IsRead}
use Rattle.icescan_answer_laws.specs.Relaxed.{NoneMayMeet}
use Rattle.icescan_answer_laws.proofs.Asked.{means_its_text}

-- ---- how the filter of a relaxed request is read

parts_of_read : (read : Result (List (Part Predicate)) FilterFault) (t : Tree Predicate) → mapped tree_of read ≡ Ok t
    → (parts : List (Part Predicate)) × (read ≡ Ok parts) × (tree_of parts ≡ t)
parts_of_read (Ok parts) t h = let e : tree_of parts ≡ t = cc in (parts, refl, e)
parts_of_read (Err fault) t h = cc

is_there : (read : Result (List (Part Predicate)) FilterFault) (parts : List (Part Predicate))
    → mapped Some read ≡ Ok (Some parts) → read ≡ Ok parts
is_there (Ok ps) parts h = let e : ps ≡ parts = cc in ap Ok e
is_there (Err fault) parts h = cc

-- these are the parts of what the relaxed request asks
abbrev pub AsksRelaxed : List ℕ → RelaxedRequest → Schema → List (Part Predicate) → Type 0
AsksRelaxed metadata made schema parts = (ps : List (Part Predicate)) × IsRead metadata made.request schema (Some ps)
    × (tree_of ps ≡ tree_of (relaxed schema parts))

module _ (read_back : IsReadFromItsText) where
  under_is_read : (metadata : List ℕ) (target : Target) (text : List ℕ) (schema : Schema)
      (parts : List (Part Predicate))
      (d : Described) → metadata_of metadata ≡ Ok d → parsed text ≡ Ok parts → schema_of target d.table ≡ Ok schema
      → AsksRelaxed metadata (relaxed_under schema target parts) schema parts
  under_is_read metadata target text schema parts d described read is =
      let tree = tree_of (relaxed schema parts) in
      let found = parts_of_read (parsed (shown tree)) tree (read_back schema text parts read) in
      (found.0, (d, described, ap (mapped Some) found.1, is), found.2)

  text_is_read : (metadata : List ℕ) (target : Target) (text : List ℕ) (made : RelaxedRequest) (schema : Schema)
      (parts : List (Part Predicate)) (d : Described) → metadata_of metadata ≡ Ok d → parsed text ≡ Ok parts
      → schema_of target d.table ≡ Ok schema → relaxed_text metadata target text ≡ Ok made
      → AsksRelaxed metadata made schema parts
  unfolding relaxed_text
  text_is_read metadata target text made schema parts d described read is h =
      let whole : relaxed_text metadata target text ≡ Ok (relaxed_under schema target parts) =
      rw (described, read, is) refl in
      let both : Ok (relaxed_under schema target parts) ≡ Ok made = sym whole ∙ h in
      let same : relaxed_under schema target parts ≡ made = cc in
      subst (λ (x : RelaxedRequest). AsksRelaxed metadata x schema parts) same
      (under_is_read metadata target text schema parts d described read is)

  filter_is_read : (metadata : List ℕ) (target : Target) (filter : Option (List ℕ)) (made : RelaxedRequest)
      (schema : Schema) (parts : List (Part Predicate)) (d : Described) → metadata_of metadata ≡ Ok d
      → parts_in filter ≡ Ok (Some parts) → schema_of target d.table ≡ Ok schema
      → relaxed_filter metadata target filter ≡ Ok made → AsksRelaxed metadata made schema parts
  filter_is_read metadata target None made schema parts d described read is h = cc
  filter_is_read metadata target (Some text) made schema parts d described read is h =
      text_is_read metadata target text made schema parts d described (is_there (parsed text) parts read) is h

  request_is_read : (metadata : List ℕ) (request : Request) (made : RelaxedRequest) (schema : Schema)
      (parts : List (Part Predicate)) → IsRead metadata request schema (Some parts)
      → relaxed_request metadata request ≡ Ok made → AsksRelaxed metadata made schema parts
  unfolding relaxed_request
  request_is_read metadata request made schema parts (d, described, read, is) h =
      filter_is_read metadata request.target request.filter made schema parts d described read is h

  -- ---- what has no row that may meet the filter

  module _ (met : IsMetWhereTheFilterMayBe) where
    no_row : (schema : Schema) (parts ps : List (Part Predicate)) (bound : List (Part BoundPredicate))
        (row : table.Row) → tree_of ps ≡ tree_of (relaxed schema parts)
        → row_meets bound row ≡ meaning (predicate_meets schema row) (tree_of ps)
        → row_meets bound row ≡ false → MayMeet schema parts row → ⊥
    no_row schema parts ps bound row same means none may =
        let is_met : meaning (predicate_meets schema row) (tree_of (relaxed schema parts)) ≡ true =
        (met schema parts row).1 may in
        let is_not : meaning (predicate_meets schema row) (tree_of (relaxed schema parts)) ≡ false =
        ap (λ (t : Tree Predicate). meaning (predicate_meets schema row) t) (sym same) ∙ sym means ∙ none in
        let no : true ≡ false = sym is_met ∙ is_not in
        absurd cc

    no_rows : (schema : Schema) (parts ps : List (Part Predicate)) (bound : List (Part BoundPredicate))
        → tree_of ps ≡ tree_of (relaxed schema parts)
        → ((row : table.Row) → row_meets bound row ≡ meaning (predicate_meets schema row) (tree_of ps))
        → (rows : List table.Row) → NoneMeets bound rows → NoneMayMeet schema parts rows
    no_rows schema parts ps bound same means [] none = tt
    no_rows schema parts ps bound same means (row ∷ rows) none =
        let each = or_parts (row_meets bound row) (list_any (row_meets bound) rows) none in (
          no_row schema parts ps bound row same (means row) each.0,
          no_rows schema parts ps bound same means rows each.1,
        )

    pub none_may_meet : (metadata : List ℕ) (request : Request) (made : RelaxedRequest) (schema : Schema)
        (parts : List (Part Predicate)) (selection : Selection) (rows : List table.Row)
        → relaxed_request metadata request ≡ Ok made → IsRead metadata request schema (Some parts)
        → selected metadata made.request ≡ Ok selection → NoneMeets selection.filter.parts rows
        → NoneMayMeet schema parts rows
    none_may_meet metadata request made schema parts selection rows made_is read is none =
        let asks = request_is_read metadata request made schema parts read made_is in
        no_rows schema parts asks.0 selection.filter.parts asks.2
        (λ row. means_its_text metadata made.request selection schema (Some asks.0) row is asks.1) rows none
