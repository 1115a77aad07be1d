-- The projection of a filter is sound.
use Rattle.std.proofs.Common.{◌≡◌, ℕ, suc, ◌+◌, Bool, true, false, ◌&&◌, ◌||◌, List, [], ◌∷◌, Option, None, Some, cond}
use Rattle.std.proofs.Common.{refl, ap, arith, sym, ◌∙◌, nat_eq, slice_get}
use Rattle.std.specs.List.{starts_with}
use Rattle.std.specs.Option.{option_map, option_and_then}
use Rattle.std.specs.declared.cmp.Ordering.TheVariants.{Equal}
use Rattle.std.specs.Ordering.{int_eq}
use Rattle.std.proofs.lemmas.Bool.Decides.{Decides-int_eq}
use Rattle.ice_value.specs.Bounds.{is_cell}
use Rattle.ice_value.specs.Cells.{order, is_at_most}
use Rattle.ice_value.specs.declared.column_type.ColumnType.{ColumnType}
use Rattle.ice_value.specs.declared.column_type.ColumnType.TheVariants.{String, Binary}
use Rattle.ice_value.specs.declared.cell.Cell.{Cell}
use Rattle.ice_value.specs.declared.cell.Cell.TheVariants.{Null, Bool as Flag, Whole, Text, Bytes}
use Rattle.ice_transform.specs.Cuts.{has_points, first_points}
use Rattle.ice_transform.specs.Definitions.{IsValueOf}
use Rattle.ice_transform.specs.Values.{value_of, type_of, is_void, is_rising}
use Rattle.ice_transform.specs.declared.parameter.Parameter.{Parameter}
use Rattle.ice_transform.specs.declared.transform.Transform.{Transform}
use Rattle.ice_transform.specs.declared.transform.Transform.TheVariants.{Identity, Bucket, Truncate, Year, Month, Day}
use Rattle.ice_transform.specs.declared.transform.Transform.TheVariants.{Hour, Void, Unknown}
use Rattle.ice_filter.specs.declared.bound.Test.{Test}
use Rattle.ice_filter.specs.declared.bound.Test.TheVariants.{Among, StartsWith}
use Rattle.ice_filter.specs.declared.bound.BoundPredicate.{BoundPredicate}
use Rattle.ice_filter.specs.declared.parts.Part.{Part}
use Rattle.ice_filter.specs.Rows.{Row, is_null, begins, holds, predicate_holds, row_meets}
use Rattle.ice_filter.specs.Trees.{Tree, truth, predicate, both, either, meaning, tree_of, map_predicates}
use Rattle.ice_meta.specs.declared.spec.Spec.{Spec}
use Rattle.ice_project.specs.declared.field.Field.{Field}
use Rattle.ice_project.specs.declared.part_filter.FieldTest.{FieldTest}
use Rattle.ice_project.specs.Tuples.{may, field_test_met, tests_met, part_meets}
use Rattle.ice_project.specs.Fields.{fields_of}
use Rattle.ice_project.specs.Projection.{cut_start, projected_test, test_at, typed_test, field_test, predicate_test}
use Rattle.ice_project.specs.Projection.{with_test, predicate_tests, projection}
use Rattle.ice_project.specs.Honesty.{IsPartitionValue, IsTupleOf, IsSound}
use Rattle.ice_project.proofs.Orders.{Ordered}
use Rattle.ice_project.proofs.Lines.{may_if, Even, Rising, same_sound, scattered_sound, stepped_sound, cut_sound}
use Rattle.ice_project.proofs.Lines.{single_met}

-- What the projection stands on: identity gives the cell itself, null alone has the value null, equal cells have equal
-- values, greater cells no smaller ones, and texts that start alike are cut alike.
pub record Facts : Type 0 where
  pub ordered : Ordered
  pub identity : (t : ColumnType) (c : Cell) → value_of Identity t c ≡ Some c
  pub kept : (f : Transform) (t : ColumnType) → value_of f t Null ≡ Some Null
  pub alone : (f : Transform) (t : ColumnType) (c : Cell) → is_void f ≡ false → value_of f t c ≡ Some Null → c ≡ Null
  pub equal : (f : Transform) (t : ColumnType) (a b : Cell) → order a b ≡ Some Equal → value_of f t a ≡ value_of f t b
  pub rising : (f : Transform) (t : ColumnType) (a b p q : Cell) → is_rising f ≡ true → is_at_most a b ≡ true
      → value_of f t a ≡ Some p → value_of f t b ≡ Some q →
      is_at_most p q ≡ true
  pub whole : (width : ℕ) (text s : List ℕ) → starts_with nat_eq text s ≡ true → has_points width s ≡ true
      → first_points width text ≡ first_points width s
  pub short : (width : ℕ) (text s : List ℕ) → starts_with nat_eq text s ≡ true → has_points width s ≡ false
      → starts_with nat_eq (first_points width text) s ≡ true
  pub valued : (f : Transform) (t : ColumnType) (c p : Cell) → IsValueOf f t c p → value_of f t c ≡ Some p
  pub mapped : (f : BoundPredicate → List FieldTest) (met : List FieldTest → Bool)
      (parts : List (Part BoundPredicate)) →
      meaning met (tree_of (map_predicates f parts)) ≡ meaning (λ l. met (f l)) (tree_of parts)

even : (facts : Facts) (f : Transform) (t : ColumnType) → is_void f ≡ false → Even (value_of f t)
even facts f t v = record { kept = facts.kept f t; alone = λ c. facts.alone f t c v; equal = facts.equal f t }

rises : (facts : Facts) (f : Transform) (t : ColumnType) → is_void f ≡ false → is_rising f ≡ true
    → Rising (value_of f t)
rises facts f t v r = record { even = even facts f t v; rising = λ a b p q. facts.rising f t a b p q r }

-- ---- starts with
-- the value of a text is the text cut
cut_if : (b : Bool) (text : List ℕ) (p : Cell) → cond b (Some (Text text)) None ≡ Some p → Text text ≡ p
cut_if true text p e = cc
cut_if false text p e = absurd cc

no_text : (b : Bool) (p : Cell) → cond b None None ≡ Some p → (q : Cell) → p ≡ q
no_text true p e q = absurd cc
no_text false p e q = absurd cc

text_cut : (w : Parameter) (a : List ℕ) (p : Cell) → value_of (Truncate w) String (Text a) ≡ Some p
    → Text (first_points w.number a) ≡ p
text_cut w a p e = cut_if (is_cell String (Text a)) (first_points w.number a) p e

cut_case : (facts : Facts) (w : Parameter) (a s : List ℕ) (p : Cell) → value_of (Truncate w) String (Text a) ≡ Some p
    → starts_with nat_eq a s ≡ true →
    may_if (cut_start (value_of (Truncate w) String) w.number s) p ≡ true
cut_case facts w a s p e h = go (has_points w.number s) refl where
  is : Text (first_points w.number a) ≡ p
  is = text_cut w a p e

  one : (o : Option Cell) → value_of (Truncate w) String (Text s) ≡ o → has_points w.number s ≡ true
      → may_if (option_map (λ q. Among (q ∷ [])) o) p ≡ true
  one None eo long = refl
  one (Some q) eo long =
      let cut_s = text_cut w s q eo in
      let same : p ≡ q = sym is ∙ (ap Text (facts.whole w.number a s h long) ∙ cut_s) in
      let n : is_null p ≡ false = ap is_null (sym is) in
      single_met facts.ordered p q n same

  go : (b : Bool) → has_points w.number s ≡ b
      → may_if (cond b (option_map (λ q. Among (q ∷ [])) (value_of (Truncate w) String (Text s))) (Some (StartsWith s)))
      p ≡ true
  go true long = one (value_of (Truncate w) String (Text s)) refl long
  go false long = rw (← is) (facts.short w.number a s h long)

starts_cut : (facts : Facts) (w : Parameter) (c p : Cell) → value_of (Truncate w) String c ≡ Some p → (s : List ℕ)
    → begins c s ≡ true →
    may_if (cut_start (value_of (Truncate w) String) w.number s) p ≡ true
starts_cut facts w (Text a) p e s h = cut_case facts w a s p e h
starts_cut facts w Null p e s h = absurd cc
starts_cut facts w (Flag b) p e s h = absurd cc
starts_cut facts w (Whole z) p e s h = absurd cc
starts_cut facts w (Bytes bs) p e s h = absurd cc

-- a text has no value over a column of byte strings
starts_bytes : (w : Parameter) (c p : Cell) → value_of (Truncate w) Binary c ≡ Some p → (s : List ℕ) → begins c s ≡ true
    →
    may_if (cut_start (value_of (Truncate w) Binary) w.number s) p ≡ true
starts_bytes w (Text a) p e s h = absurd cc
starts_bytes w Null p e s h = absurd cc
starts_bytes w (Flag b) p e s h = absurd cc
starts_bytes w (Whole z) p e s h = absurd cc
starts_bytes w (Bytes bs) p e s h = absurd cc

truncate_sound : (facts : Facts) (w : Parameter) (t : ColumnType) (test : Test) (c p : Cell)
    → value_of (Truncate w) t c ≡ Some p → holds test c ≡ true →
    may_if (projected_test (Truncate w) t test) p ≡ true
truncate_sound facts w String test c p e h =
    cut_sound facts.ordered (value_of (Truncate w) String) (rises facts (Truncate w) String refl refl) w.number test c p
    e (starts_cut facts w c p e) h
truncate_sound facts w Binary test c p e h =
    cut_sound facts.ordered (value_of (Truncate w) Binary) (rises facts (Truncate w) Binary refl refl) w.number test c p
    e (starts_bytes w c p e) h
truncate_sound facts w t test c p e h =
    stepped_sound facts.ordered (value_of (Truncate w) t) (rises facts (Truncate w) t refl refl) t test c p e h

-- ---- every transform
pub test_sound : (facts : Facts) (f : Transform) (t : ColumnType) (test : Test) (c p : Cell) → value_of f t c ≡ Some p
    → holds test c ≡ true →
    may_if (projected_test f t test) p ≡ true
test_sound facts Identity t test c p e h = let i = facts.identity t c in let same : c ≡ p = cc in
    rw (← same) (same_sound test c h)
test_sound facts (Bucket n) t test c p e h = scattered_sound facts.ordered (value_of (Bucket n) t)
    (even facts (Bucket n) t refl) test c p e h
test_sound facts (Truncate w) t test c p e h = truncate_sound facts w t test c p e h
test_sound facts Year t test c p e h = stepped_sound facts.ordered (value_of Year t) (rises facts Year t refl refl) t
    test c p e h
test_sound facts Month t test c p e h = stepped_sound facts.ordered (value_of Month t) (rises facts Month t refl refl) t
    test c p e h
test_sound facts Day t test c p e h = stepped_sound facts.ordered (value_of Day t) (rises facts Day t refl refl) t test
    c p e h
test_sound facts Hour t test c p e h = stepped_sound facts.ordered (value_of Hour t) (rises facts Hour t refl refl) t
    test c p e h
test_sound facts Void t test c p e h = refl
test_sound facts (Unknown text) t test c p e h = refl

-- ---- a field
-- the test that a predicate makes of a field is one at its position that the value meets
abbrev IsMetAt : ℕ → Cell → FieldTest → Type 0
IsMetAt at p x = (x.position ≡ at) × (may x.test p ≡ true)

typed_sound : (facts : Facts) (at : ℕ) (f : Transform) (t : ColumnType) (test : Test) (c p : Cell) (x : FieldTest) →
    ((r : ColumnType) → type_of f t ≡ Some r → IsValueOf f t c p) → holds test c ≡ true
    → typed_test at f t test ≡ Some x → IsMetAt at p x
typed_sound facts at f t test c p x honest h e = go (type_of f t) refl (projected_test f t test) refl e where
  go : (o : Option ColumnType) → type_of f t ≡ o → (q : Option Test) → projected_test f t test ≡ q
      → option_and_then (λ r. option_map (test_at at r) q) o ≡ Some x → IsMetAt at p x
  go None eo q eq k = absurd cc
  go (Some r) eo None eq k = absurd cc
  go (Some r) eo (Some q) eq k =
      let value = facts.valued f t c p (honest r eo) in
      let met : may_if (Some q) p ≡ true = ap (λ o. may_if o p) (sym eq) ∙ test_sound facts f t test c p value h in
      let same : test_at at r q ≡ x = cc in
      rw (← same) (refl, met)

field_sound : (facts : Facts) (at : ℕ) (field : Field) (test : Test) (p : Cell) (row : Row) (x : FieldTest) →
    IsPartitionValue field p row → holds test (row field.source_id) ≡ true → field_test at field test ≡ Some x
    → IsMetAt at p x
field_sound facts at field test p row x honest h e = go field.source_type refl e where
  go : (o : Option ColumnType) → field.source_type ≡ o → option_and_then (λ t. typed_test at field.transform t test) o
      ≡ Some x → IsMetAt at p x
  go None eo k = absurd cc
  go (Some t) eo k = typed_sound facts at field.transform t test (row field.source_id) p x (λ r er. honest t r eo er) h
      k

one_sound : (facts : Facts) (at : ℕ) (field : Field) (l : BoundPredicate) (p : Cell) (row : Row) (x : FieldTest) →
    IsPartitionValue field p row → predicate_holds row l ≡ true → predicate_test at field l ≡ Some x → IsMetAt at p x
one_sound facts at field l p row x honest h e = go (int_eq field.source_id l.column) refl e where
  go : (b : Bool) → int_eq field.source_id l.column ≡ b → cond b (field_test at field l.test) None ≡ Some x
      → IsMetAt at p x
  go true eb k =
      let same : field.source_id ≡ l.column = (Decides-int_eq field.source_id l.column).0 eb in
      let held : holds l.test (row field.source_id) ≡ true = ap (λ i. holds l.test (row i)) same ∙ h in
      field_sound facts at field l.test p row x honest held k
  go false eb k = absurd cc

-- the position of a predicate's test of a field
typed_position : (at : ℕ) (f : Transform) (t : ColumnType) (test : Test) (x : FieldTest)
    → typed_test at f t test ≡ Some x → x.position ≡ at
typed_position at f t test x e = go (type_of f t) (projected_test f t test) e where
  go : (o : Option ColumnType) (q : Option Test) → option_and_then (λ r. option_map (test_at at r) q) o ≡ Some x
      → x.position ≡ at
  go None q k = absurd cc
  go (Some r) None k = absurd cc
  go (Some r) (Some q) k = let same : test_at at r q ≡ x = cc in rw (← same) refl

pub predicate_position : (at : ℕ) (field : Field) (l : BoundPredicate) (x : FieldTest)
    → predicate_test at field l ≡ Some x
    → x.position ≡ at
predicate_position at field l x e = go (int_eq field.source_id l.column) field.source_type e where
  go : (b : Bool) (o : Option ColumnType) → cond b (option_and_then (λ t. typed_test at field.transform t l.test) o)
      None ≡ Some x → x.position ≡ at
  go true None k = absurd cc
  go true (Some t) k = typed_position at field.transform t l.test x k
  go false o k = absurd cc

-- ---- a predicate
pub and_both : (a b : Bool) → a ≡ true → b ≡ true → (a && b) ≡ true
and_both a b e f = rw (e, f) refl

with_met : (tuple : List Cell) (o : Option FieldTest) (tests : List FieldTest)
    → ((x : FieldTest) → o ≡ Some x → field_test_met tuple x ≡ true) → tests_met tuple tests ≡ true →
    tests_met tuple (with_test o tests) ≡ true
with_met tuple None tests one rest = rest
with_met tuple (Some x) tests one rest = and_both _ _ (one x refl) rest

-- behind the tuple's end every test is met
none_there : (fields : List Field) (at : ℕ) (tuple : List Cell) (l : BoundPredicate)
    → ((k : ℕ) → slice_get tuple (at + k) ≡ None) → tests_met tuple (predicate_tests at fields l) ≡ true
none_there [] at tuple l none = refl
none_there (f ∷ fs) at tuple l none =
    with_met tuple (predicate_test at f l) (predicate_tests (at + 1) fs l) missing (none_there fs (at + 1) tuple l
    (λ k. let o : at + 1 + k ≡ at + suc k = omega arith in rw o (none (suc k)))) where
      missing : (x : FieldTest) → predicate_test at f l ≡ Some x → field_test_met tuple x ≡ true
      missing x e =
          let place : x.position ≡ at + 0 = predicate_position at f l x e ∙ omega arith in
          let there : slice_get tuple x.position ≡ None = ap (λ i. slice_get tuple i) place ∙ none 0 in
          rw there refl

pub predicate_sound : (facts : Facts) (fields : List Field) (ps : List Cell) (at : ℕ) (tuple : List Cell)
    (l : BoundPredicate)
    (row : Row) →
    ((k : ℕ) → slice_get tuple (at + k) ≡ slice_get ps k) → IsTupleOf fields ps row → predicate_holds row l ≡ true
    → tests_met tuple (predicate_tests at fields l) ≡ true
predicate_sound facts [] ps at tuple l row look honest h = refl
predicate_sound facts (f ∷ fs) [] at tuple l row look honest h = none_there (f ∷ fs) at tuple l look
predicate_sound facts (f ∷ fs) (p ∷ ps) at tuple l row look honest h =
    with_met tuple (predicate_test at f l) (predicate_tests (at + 1) fs l) met
    (predicate_sound facts fs ps (at + 1) tuple l row (λ k. let o : at + 1 + k ≡ at + suc k = omega arith in
    rw o (look (suc k))) honest.1 h) where
      met : (x : FieldTest) → predicate_test at f l ≡ Some x → field_test_met tuple x ≡ true
      met x e =
          let is = one_sound facts at f l p row x honest.0 h e in
          let place : x.position ≡ at + 0 = is.0 ∙ omega arith in
          let there : slice_get tuple x.position ≡ Some p = ap (λ i. slice_get tuple i) place ∙ look 0 in
          rw there is.1

-- ---- a filter
pub and_mono : (a b c d : Bool) → (a ≡ true → c ≡ true) → (b ≡ true → d ≡ true) → (a && b) ≡ true → (c && d) ≡ true
and_mono true true c d f g h = let e = f refl in let k = g refl in rw (e, k) refl
and_mono true false c d f g h = absurd cc
and_mono false b c d f g h = absurd cc

pub or_mono : (a b c d : Bool) → (a ≡ true → c ≡ true) → (b ≡ true → d ≡ true) → (a || b) ≡ true → (c || d) ≡ true
or_mono true b c d f g h = let e = f refl in rw e refl
or_mono false b true d f g h = refl
or_mono false b false d f g h = g h

pub meaning_mono : {L : Type 0} (met may : L → Bool) (each : (l : L) → met l ≡ true → may l ≡ true) (t : Tree L)
    → meaning met t ≡ true → meaning may t ≡ true
meaning_mono met may each (truth b) h = h
meaning_mono met may each (predicate l) h = each l h
meaning_mono met may each (both s t) h = and_mono (meaning met s) (meaning met t) _ _ (meaning_mono met may each s)
    (meaning_mono met may each t) h
meaning_mono met may each (either s t) h = or_mono (meaning met s) (meaning met t) _ _ (meaning_mono met may each s)
    (meaning_mono met may each t) h

row_sound : (facts : Facts) (filter : List (Part BoundPredicate)) (spec : Spec) (tuple : List Cell) (row : Row)
    → IsTupleOf (fields_of spec) tuple row → row_meets filter row ≡ true →
    part_meets (projection filter spec) tuple ≡ true
row_sound facts filter spec tuple row honest h =
    facts.mapped (predicate_tests 0 (fields_of spec)) (tests_met tuple) filter
    ∙ meaning_mono (predicate_holds row) (λ l. tests_met tuple (predicate_tests 0 (fields_of spec) l))
    (λ l met. predicate_sound facts (fields_of spec) tuple 0 tuple l row
    (λ k. let o : 0 + k ≡ k = omega arith in rw o refl)
    honest met) (tree_of filter) h

pub refuted : (a b : Bool) → (a ≡ true → b ≡ true) → b ≡ false → a ≡ false
refuted true b f e = let k = f refl in absurd cc
refuted false b f e = refl

pub sound : (facts : Facts) (filter : List (Part BoundPredicate)) (spec : Spec) (tuple : List Cell)
    → IsSound filter spec tuple
sound facts filter spec tuple [] refusal honest = refl
sound facts filter spec tuple (row ∷ rows) refusal honest =
    let first = refuted (row_meets filter row) _ (row_sound facts filter spec tuple row honest.0) refusal in
    rw first (sound facts filter spec tuple rows refusal honest.1)
