-- Each test of a projection is of one of the spec's fields, which has a name.
use Rattle.std.proofs.Common.{◌≡◌, ℕ, ◌+◌, ◌<◌, ◌≤◌, Bool, true, false, cond, List, [], ◌∷◌, ◌++◌, length, map}
use Rattle.std.proofs.Common.{Option, None, Some, refl, arith, subst}
use Rattle.std.specs.Prelude.{is_some, option_map, slice_get}
use Rattle.std.specs.Option.{option_and_then}
use Rattle.std.specs.Ordering.{int_eq}
use Rattle.std.specs.List.{AllByRecursion, flat_map}
use Rattle.std.proofs.lemmas.List.{length-map}
use Rattle.std.proofs.lemmas.Option.{slice_get-get_or}
use Rattle.ice_filter.specs.declared.bound.BoundPredicate.{BoundPredicate}
use Rattle.ice_filter.specs.declared.bound.Test.{Test}
use Rattle.ice_filter.specs.declared.parts.Part.{Part}
use Rattle.ice_filter.specs.declared.parts.Part.TheVariants.{True, False, Predicate, And, Or}
use Rattle.ice_filter.specs.Trees.{map_predicates}
use Rattle.ice_meta.specs.declared.spec.PartitionField.{PartitionField}
use Rattle.ice_meta.specs.declared.spec.Spec.{Spec}
use Rattle.ice_project.specs.Fields.{field_of, fields_of}
use Rattle.ice_project.specs.Projection.{
  predicate_test,
  predicate_tests,
  projected_test,
  test_at,
  typed_test,
  with_test,
}
use Rattle.ice_project.specs.declared.field.Field.{Field}
use Rattle.ice_project.specs.declared.part_filter.FieldTest.{FieldTest}
use Rattle.ice_transform.specs.Values.{type_of}
use Rattle.ice_value.specs.declared.column_type.ColumnType.{ColumnType}
use Rattle.icescan_explain.specs.Alone.{lone_test, tests_in}
use Rattle.icescan_explain.specs.declared.lone.LoneTest.{LoneTest}

-- a test, where there is one, is of the value at that position
abbrev IsAt : ℕ → Option FieldTest → Type 0
IsAt at None = Unit {0}
IsAt at (Some t) = t.position ≡ at

mapped_at : (at : ℕ) (r : ColumnType) (o : Option Test) → IsAt at (option_map (test_at at r) o)
mapped_at at r None = tt
mapped_at at r (Some test) = refl

test_is_at : (at : ℕ) (field : Field) (l : BoundPredicate) → IsAt at (predicate_test at field l)
test_is_at at field l = go (int_eq field.source_id l.column) field.source_type where
  typed : (t : ColumnType) (o : Option ColumnType)
      → IsAt at (option_and_then (λ r. option_map (test_at at r) (projected_test field.transform t l.test)) o)
  typed t None = tt
  typed t (Some r) = mapped_at at r (projected_test field.transform t l.test)

  go : (b : Bool) (o : Option ColumnType)
      → IsAt at (cond b (option_and_then (λ t. typed_test at field.transform t l.test) o) None)
  go true None = tt
  go true (Some t) = typed t (type_of field.transform t)
  go false o = tt

-- all positions are from the first one on and below the end
abbrev AreWithin : ℕ → ℕ → List FieldTest → Type 0
AreWithin at end ts = AllByRecursion (λ (t : FieldTest). (at ≤ t.position) × (t.position < end)) ts

from_later : (at end : ℕ) (ts : List FieldTest) → AreWithin (at + 1) end ts → AreWithin at end ts
from_later at end [] all = tt
from_later at end (t ∷ ts) all = ((omega (arith, all.0.0), all.0.1), from_later at end ts all.1)

put : (at end : ℕ) (o : Option FieldTest) (ts : List FieldTest) → at < end → IsAt at o → AreWithin (at + 1) end ts
    → AreWithin at end (with_test o ts)
put at end None ts lt is all = from_later at end ts all
put at end (Some t) ts lt is all = ((omega (arith, is), omega (arith, is, lt)), from_later at end ts all)

tests_within : (at : ℕ) (fs : List Field) (l : BoundPredicate) → AreWithin at (at + length fs) (predicate_tests at fs l)
tests_within at [] l = tt
tests_within at (f ∷ fs) l =
    let same : (at + 1) + length fs ≡ at + length (f ∷ fs) = omega arith in
    put at (at + length (f ∷ fs)) (predicate_test at f l) (predicate_tests (at + 1) fs l) (omega arith)
    (test_is_at at f l)
    (subst (λ end. AreWithin (at + 1) end (predicate_tests (at + 1) fs l)) same (tests_within (at + 1) fs l))

-- so each has a field's name
abbrev IsNamed : LoneTest → Type 0
IsNamed x = is_some x.field ≡ true

there : {X : Type 0} (g : X → List ℕ) (xs : List X) (i : ℕ) → i < length xs
    → is_some (option_map g (slice_get xs i)) ≡ true
there g [] i lt = absurd (omega (arith, lt))
there g (x ∷ xs) i lt = rw (slice_get-get_or (x ∷ xs) i x lt) refl

named_tests : (spec : Spec) (n : ℕ) (at : ℕ) (ts : List FieldTest) → AreWithin at (length spec.fields) ts
    → AllByRecursion IsNamed (map (lone_test spec n) ts)
named_tests spec n at [] all = tt
named_tests spec n at (t ∷ ts) all =
    (there (λ (f : PartitionField). f.name) spec.fields t.position all.0.1, named_tests spec n at ts all.1)

both : {X : Type 0} (P : X → Type 0) (xs ys : List X) → AllByRecursion P xs → AllByRecursion P ys
    → AllByRecursion P (xs ++ ys)
both P [] ys a b = b
both P (x ∷ xs) ys a b = (a.0, both P xs ys a.1 b)

module _ (spec : Spec) (n : ℕ) where
  of_predicate : (l : BoundPredicate) → AreWithin 0 (length spec.fields) (predicate_tests 0 (fields_of spec) l)
  of_predicate l =
      let end : 0 + length (map field_of spec.fields) ≡ length spec.fields = omega
      (arith, length-map spec.fields field_of)
      in subst (λ e. AreWithin 0 e (predicate_tests 0 (fields_of spec) l)) end (tests_within 0 (fields_of spec) l)

  pub named : (ps : List (Part BoundPredicate))
      → AllByRecursion IsNamed (flat_map (tests_in spec n) (map_predicates (predicate_tests 0 (fields_of spec)) ps))
  named [] = tt
  named (True ∷ ps) = named ps
  named (False ∷ ps) = named ps
  named (And ∷ ps) = named ps
  named (Or ∷ ps) = named ps
  named (Predicate l ∷ ps) = both IsNamed (map (lone_test spec n) (predicate_tests 0 (fields_of spec) l))
      (flat_map (tests_in spec n) (map_predicates (predicate_tests 0 (fields_of spec)) ps))
      (named_tests spec n 0 (predicate_tests 0 (fields_of spec) l) (of_predicate l)) (named ps)
