-- What is left out, and the predicate that is to blame.
use Rattle.std.proofs.Common.{◌≡◌, ℕ, ◌+◌, ◌<◌, ◌≤◌, Bool, true, false, not, ◌&&◌, ◌==◌, cond, List, [], ◌∷◌, length}
use Rattle.std.proofs.Common.{Option, None, Some, refl, sym, ◌∙◌, arith}
use Rattle.std.specs.Prelude.{is_some, slice_get}
use Rattle.std.specs.Option.{option_and_then}
use Rattle.std.specs.List.{AllByRecursion, Contains, list_all}
use Rattle.std.proofs.lemmas.Option.{slice_get-get_or}
use Rattle.ice_filter.specs.declared.bound.BoundPredicate.{BoundPredicate}
use Rattle.ice_filter.specs.declared.parts.Part.{Part}
use Rattle.ice_filter.specs.declared.parts.Part.TheVariants.{True, False, Predicate, And, Or}
use Rattle.ice_filter.specs.Trees.{meaning, tree_of}
use Rattle.ice_filter.proofs.Mapped.{mapped_meaning}
use Rattle.ice_manifest_reading.specs.declared.entry.Live.{Live}
use Rattle.ice_manifest_reading.specs.declared.row.Row.{Row}
use Rattle.ice_meta.specs.declared.spec.Spec.{Spec}
use Rattle.ice_project.specs.Fields.{fields_of}
use Rattle.ice_project.specs.Files.{file_allows, file_may}
use Rattle.ice_project.specs.Projection.{predicate_tests, projection}
use Rattle.ice_project.specs.Summaries.{field_test_allowed, tests_allowed}
use Rattle.ice_project.specs.Tuples.{field_test_met, part_meets, tests_met}
use Rattle.ice_project.specs.declared.part_filter.FieldTest.{FieldTest}
use Rattle.ice_project.specs.declared.part_filter.PartFilter.{PartFilter}
use Rattle.ice_project.proofs.Sound.{meaning_mono}
use Rattle.ice_state.specs.Pruning.{summaries_allow}
use Rattle.ice_value.specs.declared.cell.Cell.{Cell}
use Rattle.ice_value.specs.declared.file_bounds.FileBounds.{FileBounds}
use Rattle.ice_value.specs.declared.file_bounds.Summary.{Summary}
use Rattle.icescan_explain.specs.Alone.{predicates, lone_predicates, lone_tests, only, only_test}
use Rattle.icescan_explain.specs.Asking.{ice_filter_tests, spec_tests}
use Rattle.icescan_explain.specs.Blaming.{blamed_field, first_no, predicate_allows}
use Rattle.icescan_explain.specs.Fates.{file_fate, is_out_of_bounds, row_fate}
use Rattle.icescan_explain.specs.declared.lone.LonePredicate.{LonePredicate}
use Rattle.icescan_explain.specs.declared.lone.LoneTest.{LoneTest}
use Rattle.icescan_explain.specs.declared.verdict.Fate.{Fate}
use Rattle.icescan_explain.specs.declared.verdict.Fate.TheVariants.{Kept, ByPartition, ByBounds}
use Rattle.icescan_explain.proofs.Firsts.{later, none_no, none_out, some_out}
use Rattle.icescan_explain.proofs.Judged.{all_yes}
use Rattle.icescan_explain.proofs.Positions.{named}

-- a filter that is never met, whatever its predicates are
abbrev IsNever : List (Part BoundPredicate) → Type 0
IsNever filter = meaning (λ (l : BoundPredicate). true) (tree_of filter) ≡ false

-- ---- names

name_of : (o : Option LoneTest) (name : List ℕ) → option_and_then (λ (x : LoneTest). x.field) o ≡ Some name
    → (x : LoneTest) × (o ≡ Some x)
name_of None name h = absurd cc
name_of (Some x) name h = (x, refl)

first_is_named : {X : Type 0} (says : X → Bool) (name : X → Option (List ℕ)) (xs : List X)
    → AllByRecursion (λ x. is_some (name x) ≡ true) xs → option_and_then name (first_no says xs) ≡ None
    → first_no says xs ≡ None
first_is_named says name [] all h = refl
first_is_named {X} says name (x ∷ xs) all h = go (says x) refl (λ k. first_is_named says name xs all.1 k) where
  none : (o : Option (List ℕ)) → is_some o ≡ true → o ≡ None → ⊥
  none None e k = cc
  none (Some n) e k = cc

  go : (b : Bool) → says x ≡ b → (option_and_then name (first_no says xs) ≡ None → first_no says xs ≡ None)
      → first_no says (x ∷ xs) ≡ None
  go true e rest = rw e (rest (rw e at h))
  go false e rest = absurd (none (name x) all.0 (rw e at h))

-- ---- the projection

module _ (filter : List (Part BoundPredicate)) (spec : Spec) (ok : FieldTest → Bool) (says : PartFilter → Bool)
    (one : (t : FieldTest) → says (only_test (length spec.fields) t) ≡ (ok t && true)) where
  abbrev part : PartFilter
  part = projection filter spec

  abbrev field : Option (List ℕ)
  field = blamed_field (lone_tests spec part) says

  pub a_predicate : (name : List ℕ) → field ≡ Some name
      → (l : BoundPredicate) × Contains (predicates filter) l
      × (list_all ok (predicate_tests 0 (fields_of spec) l) ≡ false)
  a_predicate name h =
      let x = name_of (first_no (λ (x : LoneTest). says x.part) (lone_tests spec part)) name h in
      some_out spec (length spec.fields) ok says one (predicate_tests 0 (fields_of spec)) filter x.0 x.1

  pub no_predicate : field ≡ None → meaning (list_all ok) (tree_of part.parts) ≡ false → IsNever filter
  no_predicate h out =
      let none = first_is_named (λ (x : LoneTest). says x.part) (λ (x : LoneTest). x.field) (lone_tests spec part)
      (named spec (length spec.fields) filter) h in
      let yes = all_yes (list_all ok) part.parts
      (none_out spec (length spec.fields) ok says one part.parts none) in
      sym (mapped_meaning (predicate_tests 0 (fields_of spec)) (λ (ts : List FieldTest). true) filter) ∙ sym yes ∙ out

-- the test of a tuple
module _ (filter : List (Part BoundPredicate)) (spec : Spec) (tuple : List Cell) where
  abbrev met : PartFilter → Bool
  met part = part_meets part tuple

  pub tuple_predicate : (name : List ℕ) → blamed_field (lone_tests spec (projection filter spec)) met ≡ Some name
      → (l : BoundPredicate) × Contains (predicates filter) l × (part_meets (projection (only l) spec) tuple ≡ false)
  tuple_predicate name h = a_predicate filter spec (field_test_met tuple) met (λ t. refl) name h

  pub no_tuple_predicate : blamed_field (lone_tests spec (projection filter spec)) met ≡ None
      → part_meets (projection filter spec) tuple ≡ false → IsNever filter
  no_tuple_predicate h out = no_predicate filter spec (field_test_met tuple) met (λ t. refl) h out

-- the test of a row's summaries
module _ (filter : List (Part BoundPredicate)) (spec : Spec) where
  abbrev allowed : Option (List Summary) → PartFilter → Bool
  allowed partitions part = summaries_allow part partitions

  full : (b c : Bool) → cond b c true ≡ false → (b ≡ true) × (c ≡ false)
  full true c h = (refl, h)
  full false c h = absurd cc

  whole : (b c : Bool) → b ≡ true → c ≡ false → cond b c true ≡ false
  whole b c e h = rw e h

  pub row_predicate : (partitions : Option (List Summary)) → summaries_allow (projection filter spec) partitions ≡ false
      → (name : List ℕ) → blamed_field (lone_tests spec (projection filter spec)) (allowed partitions) ≡ Some name
      → (l : BoundPredicate) × Contains (predicates filter) l
      × (summaries_allow (projection (only l) spec) partitions ≡ false)
  row_predicate None out name h = absurd cc
  row_predicate (Some ss) out name h =
      let p = full (length ss == length spec.fields)
      (meaning (tests_allowed ss) (tree_of (projection filter spec).parts))
      out in
      let found = a_predicate filter spec (field_test_allowed ss) (allowed (Some ss)) (λ t. rw p.0 refl) name h in
      (found.0, found.1, whole (length ss == length spec.fields) _ p.0 found.2)

  pub no_row_predicate : (partitions : Option (List Summary))
      → blamed_field (lone_tests spec (projection filter spec)) (allowed partitions) ≡ None
      → summaries_allow (projection filter spec) partitions ≡ false → IsNever filter
  no_row_predicate None h out = absurd cc
  no_row_predicate (Some ss) h out =
      let p = full (length ss == length spec.fields)
      (meaning (tests_allowed ss) (tree_of (projection filter spec).parts))
      out in
      no_predicate filter spec (field_test_allowed ss) (allowed (Some ss)) (λ t. rw p.0 refl) h p.1

-- ---- the bounds

column_of : (o : Option LonePredicate) (name : List ℕ) → option_and_then (λ (x : LonePredicate). x.column) o ≡ Some name
    → (x : LonePredicate) × (o ≡ Some x)
column_of None name h = absurd cc
column_of (Some x) name h = (x, refl)

module _ (columns : List (List ℕ)) (bounds : FileBounds) where
  abbrev first : ℕ → List (Part BoundPredicate) → Option LonePredicate
  first at ps = first_no (predicate_allows bounds) (lone_predicates columns at ps)

  pub bounds_predicate : (at : ℕ) (ps : List (Part BoundPredicate)) (x : LonePredicate) → first at ps ≡ Some x
      → (l : BoundPredicate) × Contains (predicates ps) l × (file_may (only l) bounds ≡ false)
  bounds_predicate at [] x h = absurd cc
  bounds_predicate at (True ∷ ps) x h = bounds_predicate at ps x h
  bounds_predicate at (False ∷ ps) x h = bounds_predicate at ps x h
  bounds_predicate at (And ∷ ps) x h = bounds_predicate at ps x h
  bounds_predicate at (Or ∷ ps) x h = bounds_predicate at ps x h
  bounds_predicate at (Predicate l ∷ ps) x h = go (file_allows bounds l) refl
      (λ k. bounds_predicate (at + 1) ps x k) where
        go : (b : Bool) → file_allows bounds l ≡ b
            → (first (at + 1) ps ≡ Some x
            → (m : BoundPredicate) × Contains (predicates ps) m × (file_may (only m) bounds ≡ false))
            → (m : BoundPredicate) × Contains (predicates (Predicate l ∷ ps)) m × (file_may (only m) bounds ≡ false)
        go true e rest = let found = rest (rw e at h) in
            (found.0, later (predicates ps) l found.0 found.1, found.2)
        go false e rest = (l, (0, omega arith, refl), e)

  pub all_allowed : (at : ℕ) (ps : List (Part BoundPredicate))
      → AllByRecursion (λ x. predicate_allows bounds x ≡ true) (lone_predicates columns at ps)
      → AllByRecursion (λ l. file_allows bounds l ≡ true) (predicates ps)
  all_allowed at [] all = tt
  all_allowed at (True ∷ ps) all = all_allowed at ps all
  all_allowed at (False ∷ ps) all = all_allowed at ps all
  all_allowed at (And ∷ ps) all = all_allowed at ps all
  all_allowed at (Or ∷ ps) all = all_allowed at ps all
  all_allowed at (Predicate l ∷ ps) all = (all.0, all_allowed (at + 1) ps all.1)

-- each predicate has a column's name where there are as many
has_name : (columns : List (List ℕ)) (at : ℕ) → at < length columns → is_some (slice_get columns at) ≡ true
has_name [] at lt = absurd (omega (arith, lt))
has_name (c ∷ cs) at lt = rw (slice_get-get_or (c ∷ cs) at c lt) refl

predicates_named : (columns : List (List ℕ)) (at : ℕ) (ps : List (Part BoundPredicate))
    → at + length (predicates ps) ≤ length columns
    → AllByRecursion (λ (x : LonePredicate). is_some x.column ≡ true) (lone_predicates columns at ps)
predicates_named columns at [] few = tt
predicates_named columns at (True ∷ ps) few = predicates_named columns at ps few
predicates_named columns at (False ∷ ps) few = predicates_named columns at ps few
predicates_named columns at (And ∷ ps) few = predicates_named columns at ps few
predicates_named columns at (Or ∷ ps) few = predicates_named columns at ps few
predicates_named columns at (Predicate l ∷ ps) few =
    (has_name columns at (omega (arith, few)), predicates_named columns (at + 1) ps (omega (arith, few)))

-- where no predicate says no the bounds don't, of a file that the projection keeps
pub bounds_say_yes : (filter : List (Part BoundPredicate)) (spec : Spec) (columns : List (List ℕ)) (l : Live)
    → part_meets (projection filter spec) l.entry.file.tuple ≡ true
    → first_no (predicate_allows l.bounds) (lone_predicates columns 0 filter) ≡ None → file_may filter l.bounds ≡ true
bounds_say_yes filter spec columns l meets none =
    let yes = all_yes (file_allows l.bounds) filter
    (all_allowed columns l.bounds 0 filter
    (none_no (predicate_allows l.bounds) (lone_predicates columns 0 filter) none)) in
    yes ∙ meaning_mono (λ (x : BoundPredicate). tests_met l.entry.file.tuple (predicate_tests 0 (fields_of spec) x))
    (λ (x : BoundPredicate). true) (λ x h. refl) (tree_of filter)
    (sym (mapped_meaning (predicate_tests 0 (fields_of spec))
    (tests_met l.entry.file.tuple) filter) ∙ meets)

-- ---- fates

-- what a fate says
by_partition : (b c : Bool) (f : Option (List ℕ)) (g : Option (List ℕ)) (name : Option (List ℕ))
    → cond b (cond c (ByBounds g) Kept) (ByPartition f) ≡ ByPartition name → (b ≡ false) × (f ≡ name)
by_partition true true f g name h = absurd cc
by_partition true false f g name h = absurd cc
by_partition false c f g name h = (refl, cc)

by_bounds : (b c : Bool) (f : Option (List ℕ)) (g : Option (List ℕ)) (name : Option (List ℕ))
    → cond b (cond c (ByBounds g) Kept) (ByPartition f) ≡ ByBounds name → (b ≡ true) × (c ≡ true) × (g ≡ name)
by_bounds true true f g name h = (refl, refl, cc)
by_bounds true false f g name h = absurd cc
by_bounds false c f g name h = absurd cc

by_summaries : (b : Bool) (f name : Option (List ℕ)) → cond b Kept (ByPartition f) ≡ ByPartition name
    → (b ≡ false) × (f ≡ name)
by_summaries true f name h = absurd cc
by_summaries false f name h = (refl, cc)

and_not : (a b : Bool) → (a && not b) ≡ true → b ≡ false
and_not true true h = absurd cc
and_not true false h = refl
and_not false b h = absurd cc

module _ (filter : List (Part BoundPredicate)) (spec : Spec) where
  pub row_named : (row : Row) (name : List ℕ) → row_fate (spec_tests filter spec) row ≡ ByPartition (Some name)
      → (l : BoundPredicate) × Contains (predicates filter) l
      × (summaries_allow (projection (only l) spec) row.partitions ≡ false)
  row_named row name h =
      let p = by_summaries (summaries_allow (projection filter spec) row.partitions) _ (Some name) h in
      row_predicate filter spec row.partitions p.0 name p.1

  pub row_unnamed : (row : Row) → row_fate (spec_tests filter spec) row ≡ ByPartition None → IsNever filter
  row_unnamed row h =
      let p = by_summaries (summaries_allow (projection filter spec) row.partitions) _ None h in
      no_row_predicate filter spec row.partitions p.1 p.0

  module _ (specs : List Spec) (columns : List (List ℕ)) (l : Live) where
    abbrev fate : Fate
    fate = file_fate (ice_filter_tests specs filter columns) (spec_tests filter spec) l

    abbrev meets : Bool
    meets = part_meets (projection filter spec) l.entry.file.tuple

    abbrev out : Bool
    out = is_out_of_bounds (ice_filter_tests specs filter columns) l

    pub partition_named : (name : List ℕ) → fate ≡ ByPartition (Some name)
        → (x : BoundPredicate) × Contains (predicates filter) x
        × (part_meets (projection (only x) spec) l.entry.file.tuple ≡ false)
    partition_named name h =
        let p = by_partition meets out _ _ (Some name) h in
        tuple_predicate filter spec l.entry.file.tuple name p.1

    pub partition_unnamed : fate ≡ ByPartition None → IsNever filter
    partition_unnamed h =
        let p = by_partition meets out _ _ None h in
        no_tuple_predicate filter spec l.entry.file.tuple p.1 p.0

    pub bounds_named : (name : List ℕ) → fate ≡ ByBounds (Some name)
        → (x : BoundPredicate) × Contains (predicates filter) x × (file_may (only x) l.bounds ≡ false)
    bounds_named name h =
        let p = by_bounds meets out _ _ (Some name) h in
        let x = column_of (first_no (predicate_allows l.bounds) (lone_predicates columns 0 filter)) name p.2 in
        bounds_predicate columns l.bounds 0 filter x.0 x.1

    pub bounds_unnamed : length (predicates filter) ≤ length columns → fate ≡ ByBounds None → ⊥
    bounds_unnamed few h =
        let p = by_bounds meets out _ _ None h in
        let none = first_is_named (predicate_allows l.bounds) (λ (x : LonePredicate). x.column)
        (lone_predicates columns 0 filter)
        (predicates_named columns 0 filter (omega (arith, few))) p.2 in
        let yes = bounds_say_yes filter spec columns l p.0 none in
        let no = and_not _ (file_may filter l.bounds) p.1 in
        cc
