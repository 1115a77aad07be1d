-- A manifest whose summaries are those of its tuples isn't left out where a tuple meets.
use Rattle.std.proofs.Common.{◌≡◌, ℕ, suc, ◌+◌, ◌==◌, Bool, true, false, List, [], ◌∷◌, length, Option, None, Some}
use Rattle.std.proofs.Common.{cond, refl, ap, arith, sym, ◌∙◌, slice_get}
use Rattle.std.specs.Option.{option_map, option_and_then}
use Rattle.std.specs.Ordering.{int_eq}
use Rattle.std.proofs.lemmas.Bool.{and_parts}
use Rattle.std.proofs.lemmas.Bool.Decides.{Decides-eqb}
use Rattle.std.proofs.lemmas.List.{length-map}
use Rattle.ice_value.specs.declared.column_type.ColumnType.{ColumnType}
use Rattle.ice_value.specs.declared.cell.Cell.{Cell}
use Rattle.ice_value.specs.declared.file_bounds.Summary.{Summary}
use Rattle.ice_transform.specs.Values.{type_of}
use Rattle.ice_transform.specs.declared.transform.Transform.{Transform}
use Rattle.ice_meta.specs.declared.spec.Spec.{Spec}
use Rattle.ice_filter.specs.declared.bound.Test.{Test}
use Rattle.ice_filter.specs.declared.bound.Test.TheVariants.{IsNull}
use Rattle.ice_filter.specs.declared.bound.BoundPredicate.{BoundPredicate}
use Rattle.ice_filter.specs.declared.parts.Part.{Part}
use Rattle.ice_filter.specs.Rows.{is_null}
use Rattle.ice_filter.specs.Trees.{meaning, tree_of, map_predicates}
use Rattle.ice_project.specs.declared.field.Field.{Field}
use Rattle.ice_project.specs.declared.part_filter.FieldTest.{FieldTest}
use Rattle.ice_project.specs.Fields.{field_of, fields_of}
use Rattle.ice_project.specs.Limits.{limit, in_bounds}
use Rattle.ice_project.specs.Projection.{
  projected_test,
  test_at,
  typed_test,
  predicate_test,
  with_test,
  predicate_tests,
}
use Rattle.ice_project.specs.Projection.{projection}
use Rattle.ice_project.specs.Summaries.{summary_allows, field_test_allowed, tests_allowed, summaries_may}
use Rattle.ice_project.specs.Summaries.{type_of_values, IsSummaryOf, AreSummariesOf, IsCovered}
use Rattle.ice_project.specs.Tuples.{may, may_present, is_null_test, field_test_met, tests_met, part_meets}
use Rattle.ice_project.proofs.Orders.{Ordered}
use Rattle.ice_project.proofs.Sound.{and_both, predicate_position, meaning_mono}
use Rattle.ice_project.proofs.Within.{shown, allowed}

-- a value that isn't null meets no test for null
no_null_test : (test : Test) (p : Cell) → is_null_test test ≡ true → may_present test p ≡ true → (b : Bool) → b ≡ true
no_null_test IsNull p e h b = absurd cc
no_null_test _ p e h b = absurd cc

-- the type by which a predicate's test of a field reads bounds
typed_type : (at : ℕ) (f : Transform) (t : ColumnType) (test : Test) (x : FieldTest) → typed_test at f t test ≡ Some x
    → type_of f t ≡ Some x.value_type
typed_type at f t test x e = go (type_of f t) refl (projected_test f t test) e where
  go : (o : Option ColumnType) → type_of f t ≡ o → (q : Option Test)
      → option_and_then (λ r. option_map (test_at at r) q) o ≡ Some x → type_of f t ≡ Some x.value_type
  go None eo q k = absurd cc
  go (Some r) eo None k = absurd cc
  go (Some r) eo (Some q) k = let same : test_at at r q ≡ x = cc in rw (← same) eo

predicate_type : (at : ℕ) (field : Field) (l : BoundPredicate) (x : FieldTest) → predicate_test at field l ≡ Some x
    → type_of_values field ≡ Some x.value_type
predicate_type at field l x e = go (int_eq field.source_id l.column) field.source_type e where
  go : (b : Bool) (o : Option ColumnType) → cond b (option_and_then (λ t. typed_test at field.transform t l.test) o)
      None ≡ Some x →
      option_and_then (type_of field.transform) o ≡ Some x.value_type
  go true None k = absurd cc
  go true (Some t) k = typed_type at field.transform t l.test x k
  go false o k = absurd cc

summary_sound : (ordered : Ordered) (at : ℕ) (field : Field) (l : BoundPredicate) (x : FieldTest) (s : Summary)
    (p : Cell)
    → predicate_test at field l ≡ Some x → IsSummaryOf field s p →
    may x.test p ≡ true → summary_allows x s ≡ true
summary_sound ordered at field l x s p e cover h = go (is_null p) refl where
  present : is_null p ≡ false → (b : Bool) → is_null_test x.test ≡ b
      → cond b s.contains_null (in_bounds x.test (limit x.value_type s.lower) (limit x.value_type s.upper)) ≡ true
  present n true k = no_null_test x.test p k (shown x.test p n h) s.contains_null
  present n false k =
      allowed ordered x.test (limit x.value_type s.lower) (limit x.value_type s.upper) p (cover.present n x.value_type
      (predicate_type at field l x e)) (shown x.test p n h)

  go : (b : Bool) → is_null p ≡ b → summary_allows x s ≡ true
  go true n = let k : is_null_test x.test ≡ true = rw n at h in rw k (cover.null n)
  go false n = present n (is_null_test x.test) refl

with_allowed : (tuple : List Cell) (summaries : List Summary) (o : Option FieldTest) (tests : List FieldTest) →
    ((x : FieldTest) → o ≡ Some x → field_test_met tuple x ≡ true → field_test_allowed summaries x ≡ true) →
    (tests_met tuple tests ≡ true → tests_allowed summaries tests ≡ true) → tests_met tuple (with_test o tests) ≡ true
    → tests_allowed summaries (with_test o tests) ≡ true
with_allowed tuple summaries None tests one rest h = rest h
with_allowed tuple summaries (Some x) tests one rest h =
    let parts = and_parts (field_test_met tuple x) (tests_met tuple tests) h in
    and_both _ _ (one x refl parts.0) (rest parts.1)

predicate_allowed : (ordered : Ordered) (fields : List Field) (ss : List Summary) (ps : List Cell) (at : ℕ)
    (summaries : List Summary) (tuple : List Cell) (l : BoundPredicate) →
    ((k : ℕ) → slice_get summaries (at + k) ≡ slice_get ss k) → ((k : ℕ) → slice_get tuple (at + k) ≡ slice_get ps k)
    → AreSummariesOf fields ss ps →
    tests_met tuple (predicate_tests at fields l) ≡ true → tests_allowed summaries (predicate_tests at fields l) ≡ true
predicate_allowed ordered [] ss ps at summaries tuple l look_s look_p cover h = refl
predicate_allowed ordered (f ∷ fs) [] ps at summaries tuple l look_s look_p cover h = absurd cover
predicate_allowed ordered (f ∷ fs) (s ∷ ss) [] at summaries tuple l look_s look_p cover h = absurd cover
predicate_allowed ordered (f ∷ fs) (s ∷ ss) (p ∷ ps) at summaries tuple l look_s look_p cover h =
    with_allowed tuple summaries (predicate_test at f l) (predicate_tests (at + 1) fs l) one
    (predicate_allowed ordered fs ss ps (at + 1) summaries tuple l
    (λ k. let o : at + 1 + k ≡ at + suc k = omega arith in
    rw o (look_s (suc k)))
    (λ k. let o : at + 1 + k ≡ at + suc k = omega arith in rw o (look_p (suc k))) cover.1) h where
      one : (x : FieldTest) → predicate_test at f l ≡ Some x → field_test_met tuple x ≡ true
          → field_test_allowed summaries x ≡ true
      one x e m =
          let place : x.position ≡ at + 0 = predicate_position at f l x e ∙ omega arith in
          let value : slice_get tuple x.position ≡ Some p = ap (λ i. slice_get tuple i) place ∙ look_p 0 in
          let summary : slice_get summaries x.position ≡ Some s = ap (λ i. slice_get summaries i) place ∙ look_s 0 in
          let met : may x.test p ≡ true = rw value at m in
          rw summary (summary_sound ordered at f l x s p e cover.0 met)

pub covered : (ordered : Ordered) →
    ((f : BoundPredicate → List FieldTest) (met : List FieldTest → Bool) (parts : List (Part BoundPredicate))
    → meaning met (tree_of (map_predicates f parts)) ≡ meaning (λ l. met (f l)) (tree_of parts)) →
    (filter : List (Part BoundPredicate)) (spec : Spec) (summaries : List Summary) (tuple : List Cell)
    → IsCovered (fields_of spec) summaries tuple →
    part_meets (projection filter spec) tuple ≡ true → summaries_may (projection filter spec) summaries ≡ true
covered ordered mapped filter spec summaries tuple cover h = go (length summaries == length spec.fields) refl where
  fields : List Field
  fields = fields_of spec

  each : AreSummariesOf fields summaries tuple → (l : BoundPredicate)
      → tests_met tuple (predicate_tests 0 fields l) ≡ true
      → tests_allowed summaries (predicate_tests 0 fields l) ≡ true
  each are l m = predicate_allowed ordered fields summaries tuple 0 summaries tuple l (λ k. let o : 0 + k ≡ k =
      omega arith in rw o refl) (λ k. let o : 0 + k ≡ k = omega arith in rw o refl) are m

  all : AreSummariesOf fields summaries tuple
      → meaning (tests_allowed summaries) (tree_of (map_predicates (predicate_tests 0 fields) filter)) ≡ true
  all are =
      mapped (predicate_tests 0 fields) (tests_allowed summaries) filter
      ∙ meaning_mono (λ l. tests_met tuple (predicate_tests 0 fields l)) (λ l. tests_allowed summaries
      (predicate_tests 0 fields l)) (each are) (tree_of filter)
      (sym (mapped (predicate_tests 0 fields) (tests_met tuple) filter) ∙ h)

  go : (b : Bool) → (length summaries == length spec.fields) ≡ b
      → cond b (meaning (tests_allowed summaries) (tree_of (map_predicates (predicate_tests 0 fields) filter))) true ≡
      true
  go true e = all (cover ((Decides-eqb (length summaries) (length spec.fields)).0 e ∙ sym
      (length-map spec.fields field_of)))
  go false e = refl
