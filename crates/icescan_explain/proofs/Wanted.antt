-- Which rows are wanted, and the filter through the spec of each.
use Rattle.std.proofs.Common.{◌≡◌, ℕ, ℤ, Bool, true, false, cond, List, [], ◌∷◌, map, Option, None, Some, refl, sym, ap}
use Rattle.std.proofs.Common.{◌∙◌, filter as filter_list}
use Rattle.std.specs.Prelude.{Ok, option_map}
use Rattle.std.specs.List.{find}
use Rattle.std.specs.Ordering.{int_eq}
use Rattle.icescan_explain.specs.Asking.{ice_filter_tests, spec_tests, tests_of}
use Rattle.icescan_explain.specs.declared.tests.FilterTests.{FilterTests}
use Rattle.icescan_explain.specs.declared.tests.SpecTests.{SpecTests}
use Rattle.icescan_explain.proofs.Scanned.{row_kept}
use Rattle.ice_filter.specs.declared.bound.BoundPredicate.{BoundPredicate}
use Rattle.ice_filter.specs.declared.parts.Part.{Part}
use Rattle.ice_manifest_reading.specs.declared.row.Row.{Row}
use Rattle.ice_meta.specs.declared.spec.Spec.{Spec}
use Rattle.ice_state.specs.Pruning.{pruner_of}
use Rattle.ice_state.specs.Scans.{Scanned, by_row_path, scan_of, wanted_rows}
use Rattle.ice_state.specs.Specs.{by_id, spec_of}
use Rattle.ice_state.proofs.Scans.{made, scan_is, scan_made}
use Rattle.ice_state.proofs.Specs.{spec_of-by_id}
use Rattle.icescan_explain.specs.RowsTold.{AreFor, IsScanFor, is_wanted, is_wanted_by}

found_step : (filter : List (Part BoundPredicate)) (spec : Spec) (specs : List Spec) (id : ℤ) (b : Bool)
    → find (λ (t : SpecTests). int_eq t.spec.id id) (map (spec_tests filter) specs)
    ≡ option_map (spec_tests filter) (spec_of specs id)
    → cond b (Some (spec_tests filter spec))
    (find (λ (t : SpecTests). int_eq t.spec.id id) (map (spec_tests filter) specs))
    ≡ option_map (spec_tests filter) (cond b (Some spec) (spec_of specs id))
found_step filter spec specs id true rest = refl
found_step filter spec specs id false rest = rest

found_in : (filter : List (Part BoundPredicate)) (specs : List Spec) (id : ℤ)
    → find (λ (t : SpecTests). int_eq t.spec.id id) (map (spec_tests filter) specs)
    ≡ option_map (spec_tests filter) (spec_of specs id)
found_in filter [] id = refl
found_in filter (spec ∷ specs) id =
    found_step filter spec specs id (int_eq spec.id id) (found_in filter specs id)

module _ (specs : List Spec) (filter : List (Part BoundPredicate)) (columns : List (List ℕ)) where
  abbrev tests : FilterTests
  tests = ice_filter_tests specs filter columns

  pub of_id : (id : ℤ) → tests_of tests id ≡ option_map (spec_tests filter) (spec_of specs id)
  of_id id = found_in filter specs id

  same_wanted : (row : Row) (o : Option Spec) → spec_of specs row.spec_id ≡ o
      → is_wanted_by (option_map (spec_tests filter) o) row ≡ (pruner_of filter specs).wants row
  same_wanted row None h = rw h refl
  same_wanted row (Some spec) h = row_kept specs filter spec row h

  pub wanted_is : (row : Row) → is_wanted tests row ≡ (pruner_of filter specs).wants row
  wanted_is row = ap (λ (o : Option SpecTests). is_wanted_by o row) (of_id row.spec_id)
      ∙ same_wanted row (spec_of specs row.spec_id) refl

  pub wanted_are : (rows : List Row) → filter_list (is_wanted tests) rows ≡ wanted_rows (pruner_of filter specs) rows
  wanted_are [] = refl
  wanted_are (row ∷ rows) = rw (wanted_is row, wanted_are rows) refl

-- the wanted rows of a scan that the tests are for
pub scan_wants : (by : FilterTests) (specs : List Spec) (filter : List (Part BoundPredicate)) (rows : List Row)
    (scan : Scanned) → AreFor by specs filter → scan_of rows specs filter ≡ Ok scan
    → scan.wanted ≡ filter_list (is_wanted by) (by_row_path rows)
scan_wants by specs filter rows scan for is =
    sym (ap (λ (s : Scanned). s.wanted) (scan_made rows specs filter scan is).1)
    ∙ sym (wanted_are specs filter for.0 (by_row_path rows))
    ∙ ap (λ (t : FilterTests). filter_list (is_wanted t) (by_row_path rows)) (sym for.1)

-- ---- the spec of a row

of_tests : (filter : List (Part BoundPredicate)) (o : Option Spec) (of_spec : SpecTests)
    → option_map (spec_tests filter) o ≡ Some of_spec → o ≡ Some of_spec.spec
of_tests filter None of_spec h = absurd cc
of_tests filter (Some spec) of_spec h =
    let same : spec_tests filter spec ≡ of_spec = cc in ap (λ (t : SpecTests). Some t.spec) same

-- it is the scan's
pub same_spec : (by : FilterTests) (scan : Scanned) (id : ℤ) (of_spec : SpecTests) → IsScanFor by scan
    → tests_of by id ≡ Some of_spec → spec_of scan.specs id ≡ Some of_spec.spec
same_spec by scan id of_spec for is =
    let specs = for.1 in
    let filter = for.2 in
    let ids : by_id specs ≡ scan.specs =
    ap (λ (s : Scanned). s.specs) (scan_is for.0 specs scan (made for.0 specs filter scan for.4).1).1 in
    ap (λ (ss : List Spec). spec_of ss id) (sym ids) ∙ spec_of-by_id specs id
    ∙ of_tests filter (spec_of specs id) of_spec (sym (of_id specs filter for.3.0 id)
    ∙ ap (λ (t : FilterTests). tests_of t id) (sym for.3.1) ∙ is)
