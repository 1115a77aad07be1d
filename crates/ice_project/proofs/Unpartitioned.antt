-- The projection through a spec that partitions nothing.
use Rattle.std.proofs.Common.{◌≡◌, ℕ, ◌+◌, Bool, true, false, List, [], ◌∷◌, codes, map, Option, None, Some, cond, refl}
use Rattle.std.proofs.Common.{sym, ◌∙◌}
use Rattle.std.specs.List.{list_all}
use Rattle.std.specs.Option.{option_and_then}
use Rattle.std.specs.Ordering.{int_eq}
use Rattle.std.proofs.lemmas.Bool.{and_parts}
use Rattle.std.proofs.lemmas.Slice.Eq.{bytes_eq-Decides}
use Rattle.ice_value.specs.declared.column_type.ColumnType.{ColumnType}
use Rattle.ice_value.specs.declared.cell.Cell.{Cell}
use Rattle.ice_transform.specs.declared.transform.Transform.TheVariants.{Void}
use Rattle.ice_meta.specs.Partitioning.{is_void, is_unpartitioned}
use Rattle.ice_meta.specs.declared.spec.PartitionField.{PartitionField}
use Rattle.ice_meta.specs.declared.spec.Spec.{Spec}
use Rattle.ice_filter.specs.declared.bound.BoundPredicate.{BoundPredicate}
use Rattle.ice_filter.specs.declared.parts.Part.{Part}
use Rattle.ice_filter.specs.Trees.{Tree, truth, predicate, both, either, meaning, tree_of, map_predicates}
use Rattle.ice_project.specs.declared.field.Field.{Field}
use Rattle.ice_project.specs.declared.part_filter.FieldTest.{FieldTest}
use Rattle.ice_project.specs.Fields.{transform_named, field_of, fields_of}
use Rattle.ice_project.specs.Projection.{typed_test, predicate_test, predicate_tests, projection}
use Rattle.ice_project.specs.Tuples.{tests_met, part_meets}
use Rattle.ice_project.proofs.Sound.{meaning_mono}

void_named : (f : PartitionField) → is_void f ≡ true → transform_named f.transform ≡ Void
void_named f h = let e : f.transform ≡ codes "void" = (bytes_eq-Decides f.transform (codes "void")).0 h in rw e refl

no_test : (at : ℕ) (field : Field) (l : BoundPredicate) → field.transform ≡ Void → predicate_test at field l ≡ None
no_test at field l v = rw v (go (int_eq field.source_id l.column) field.source_type) where
  go : (b : Bool) (o : Option ColumnType) → cond b (option_and_then (λ t. typed_test at Void t l.test) o) None ≡ None
  go true (Some t) = refl
  go true None = refl
  go false o = refl

no_tests : (fields : List PartitionField) (at : ℕ) (l : BoundPredicate) → list_all is_void fields ≡ true
    → predicate_tests at (map field_of fields) l ≡ []
no_tests [] at l h = refl
no_tests (f ∷ fs) at l h =
    let parts = and_parts (is_void f) (list_all is_void fs) h in
    let none = no_test at (field_of f) l (void_named f parts.0) in
    rw none (no_tests fs (at + 1) l parts.1)

meaning_same : {L : Type 0} (met other : L → Bool) (each : (l : L) → met l ≡ other l) (t : Tree L)
    → meaning met t ≡ meaning other t
meaning_same met other each (truth b) = refl
meaning_same met other each (predicate l) = each l
meaning_same met other each (both s t) = let a = meaning_same met other each s in let b = meaning_same met other each
    t in rw (a, b) refl
meaning_same met other each (either s t) = let a = meaning_same met other each s in let b = meaning_same met other each
    t in rw (a, b) refl

-- of a filter over other predicates
abbrev Mapped : Type 0
Mapped = (f : BoundPredicate → List FieldTest) (met : List FieldTest → Bool) (parts : List (Part BoundPredicate))
    → meaning met (tree_of (map_predicates f parts)) ≡ meaning (λ l. met (f l)) (tree_of parts)

pub all_predicates_met : Mapped → (filter : List (Part BoundPredicate)) (spec : Spec) (tuple : List Cell)
    → is_unpartitioned spec ≡ true →
    part_meets (projection filter spec) tuple ≡ meaning (λ (l : BoundPredicate). true) (tree_of filter)
all_predicates_met mapped filter spec tuple h =
    mapped (predicate_tests 0 (fields_of spec)) (tests_met tuple) filter
    ∙ meaning_same (λ l. tests_met tuple (predicate_tests 0 (fields_of spec) l)) (λ l. true)
    (λ l. let none = no_tests spec.fields 0 l h in rw none refl) (tree_of filter)

pub met_wherever_another_is : Mapped → (filter : List (Part BoundPredicate)) (spec other : Spec) (tuple met : List Cell)
    → is_unpartitioned spec ≡ true →
    part_meets (projection filter other) met ≡ true → part_meets (projection filter spec) tuple ≡ true
met_wherever_another_is mapped filter spec other tuple met h m =
    all_predicates_met mapped filter spec tuple h
    ∙ meaning_mono (λ l. tests_met met (predicate_tests 0 (fields_of other) l)) (λ l. true) (λ l k. refl)
    (tree_of filter)
    (sym (mapped (predicate_tests 0 (fields_of other)) (tests_met met) filter) ∙ m)
