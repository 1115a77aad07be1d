-- A bound filter means on a row what the filter over names means.
use Rattle.std.proofs.Common.{◌≡◌, ℕ, ℤ, Bool, true, false, not, ◌&&◌, ◌||◌, cond, List, [], ◌∷◌, Option, None, Some}
use Rattle.std.proofs.Common.{Result, Ok, Err, refl, sym, ◌∙◌, ap}
use Rattle.std.specs.List.{list_any}
use Rattle.std.specs.Option.{option_map, option_and_then}
use Rattle.contract_words.specs.Outcome.{◌>>=◌}
use Rattle.ice_value.specs.declared.cell.Cell.{Cell}
use Rattle.ice_value.specs.declared.cell.Cell.TheVariants.{Null}
use Rattle.ice_value.specs.declared.column_type.ColumnType.{ColumnType}
use Rattle.ice_meta.specs.declared.schema.Schema.{Schema}
use Rattle.ice_meta.specs.declared.schema.Column as meta
use Rattle.ice_meta.specs.Columns.{column_on}
use Rattle.ice_filter.specs.declared.bound.BoundPredicate.{BoundPredicate}
use Rattle.ice_filter.specs.declared.bound.Test.{Test}
use Rattle.ice_filter.specs.declared.bound.Test.TheVariants as test
use Rattle.ice_filter.specs.declared.fault.FilterFault.{FilterFault}
use Rattle.ice_filter.specs.declared.fault.FilterFault.TheVariants.{NoSuchColumn, NotComparable, WrongLiteral}
use Rattle.ice_filter.specs.declared.predicate.Predicate.{Predicate}
use Rattle.ice_filter.specs.declared.predicate.Choices.{Choices}
use Rattle.ice_filter.specs.declared.predicate.Literal.{Literal}
use Rattle.ice_filter.specs.declared.predicate.Literal.TheVariants as literal
use Rattle.ice_filter.specs.declared.predicate.Question.{Question}
use Rattle.ice_filter.specs.declared.predicate.Question.TheVariants as question
use Rattle.ice_filter.specs.declared.token.Comparison.{Comparison}
use Rattle.ice_filter.specs.declared.token.Comparison.TheVariants as comparison
use Rattle.ice_filter.specs.declared.parts.Part.{Part}
use Rattle.ice_filter.specs.declared.parts.Part.TheVariants as part
use Rattle.ice_filter.specs.Rows.{Row, is_null, equals, holds, predicate_holds, row_meets}
use Rattle.ice_filter.specs.Trees.{meaning, tree_of, operands_after, operands_after_part, is_one_filter, is_filter}
use Rattle.ice_filter.specs.Truths.{judge_part, judge_parts, top}
use Rattle.ice_filter.specs.Binding.{cell_of, cells_of, with_cell, compared_to, among, starts, test_of, path, or_fault}
use Rattle.ice_filter.specs.Binding.{
  may_ask,
  asked,
  bound_predicate,
  bound_part,
  bound_parts,
  is_so,
  is_literal,
  passes,
}
use Rattle.ice_filter.specs.Binding.{answers, predicate_meets}
use Rattle.ice_filter.proofs.Stacks.{judged_tree}

-- ---- a predicate

or_false : (b : Bool) → (b || false) ≡ b
or_false true = refl
or_false false = refl

compared_means : (sign : Comparison) (v c : Cell) → holds (compared_to sign v) c ≡ is_so sign c v
compared_means comparison.Less v c = refl
compared_means comparison.AtMost v c = refl
compared_means comparison.Greater v c = refl
compared_means comparison.AtLeast v c = refl
compared_means comparison.Equal v c = or_false (equals c v)
compared_means comparison.NotEqual v c = rw (or_false (equals c v)) refl

comparison_means : (t : ColumnType) (sign : Comparison) (o : Option Cell) (x : Test) (c : Cell)
    → option_map (compared_to sign) o ≡ Some x → holds x c ≡ passes (is_so sign c) o
comparison_means t sign None x c e = absurd cc
comparison_means t sign (Some v) x c e = let same : compared_to sign v ≡ x = cc in rw (← same) (compared_means sign v c)

more_means : (t : ColumnType) (l : Literal) (ls : List Literal) (vs : List Cell) (c : Cell)
    → ((ws : List Cell) → cells_of t ls ≡ Some ws → list_any (equals c) ws ≡ list_any (is_literal t c) ls)
    → (o : Option Cell) (os : Option (List Cell)) → cell_of t l ≡ o → cells_of t ls ≡ os → with_cell o os ≡ Some vs
    → list_any (equals c) vs ≡ (is_literal t c l || list_any (is_literal t c) ls)
more_means t l ls vs c later None os e f g = absurd cc
more_means t l ls vs c later (Some v) None e f g = absurd cc
more_means t l ls vs c later (Some v) (Some ws) e f g =
    let same : v ∷ ws ≡ vs = cc in
    let rest : list_any (equals c) ws ≡ list_any (is_literal t c) ls = later ws f in
    rw (← same, e, ← rest) refl

each_means : (t : ColumnType) (ls : List Literal) (vs : List Cell) (c : Cell) → cells_of t ls ≡ Some vs
    → list_any (equals c) vs ≡ list_any (is_literal t c) ls
each_means t [] [] c e = refl
each_means t [] (v ∷ vs) c e = absurd cc
each_means t (l ∷ ls) vs c e = more_means t l ls vs c (λ ws f. each_means t ls ws c f) (cell_of t l) (cells_of t ls)
    refl refl e

list_means : (t : ColumnType) (b : Bool) (ls : Choices) (o : Option (List Cell)) (x : Test) (c : Cell)
    → cells_of t (ls.first ∷ ls.more) ≡ o → option_map (among b) o ≡ Some x
    → holds x c ≡ answers t (question.Among b ls) c
list_means t b ls None x c f e = absurd cc
list_means t false ls (Some vs) x c f e = let same : among false vs ≡ x = cc in
    rw (← same) (each_means t (ls.first ∷ ls.more) vs c f)
list_means t true ls (Some vs) x c f e =
    let same : among true vs ≡ x = cc in
    rw (← same) (ap (λ b. not (is_null c) && not b) (each_means t (ls.first ∷ ls.more) vs c f))

starts_means : (t : ColumnType) (l : Literal) (x : Test) (c : Cell) → starts l ≡ Some x
    → holds x c ≡ answers t (question.Begins l) c
starts_means t (literal.Text s) x c e = let same : test.StartsWith s ≡ x = cc in rw (← same) refl
starts_means t (literal.Truth b) x c e = absurd cc
starts_means t (literal.Number b) x c e = absurd cc
starts_means t (literal.Bytes b) x c e = absurd cc

test_means : (t : ColumnType) (q : Question) (x : Test) (c : Cell) → test_of t q ≡ Some x → holds x c ≡ answers t q c
test_means t (question.Compare sign l) x c e = comparison_means t sign (cell_of t l) x c e
test_means t (question.Among b ls) x c e = list_means t b ls (cells_of t (ls.first ∷ ls.more)) x c refl e
test_means t question.Missing x c e = let same : test.IsNull ≡ x = cc in rw (← same) refl
test_means t question.Present x c e = let same : test.IsPresent ≡ x = cc in rw (← same) refl
test_means t (question.Begins l) x c e = starts_means t l x c e

typed : (q : Question) (t r : ColumnType) (b : Bool) → cond b (Some t) None ≡ Some r → t ≡ r
typed q t r true e = cc
typed q t r false e = absurd cc

-- what the row's cell answers
abbrev Says : Row → ℤ → Option ColumnType → Question → Bool
Says row id type q = passes (λ t. answers t q (row id)) type

asked_test : (row : Row) (id : ℤ) (t : ColumnType) (q : Question) (b : BoundPredicate) (o : Option Test)
    → test_of t q ≡ o
    → (or_fault WrongLiteral o >>= λ test. Ok (record { column = id; column_type = t; test = test })) ≡ Ok b
    → predicate_holds row b ≡ answers t q (row id)
asked_test row id t q b None f e = absurd cc
asked_test row id t q b (Some x) f e =
    let same : record { column = id; column_type = t; test = x } ≡ b = cc in
    rw (← same) (test_means t q x (row id) f)

asked_type : (row : Row) (id : ℤ) (q : Question) (b : BoundPredicate) (t : ColumnType) (may : Bool)
    → (or_fault NotComparable (cond may (Some t) None) >>= λ u. or_fault WrongLiteral (test_of u q) >>= λ test. Ok
    (record { column = id; column_type = u; test = test })) ≡ Ok b → predicate_holds row b ≡ answers t q (row id)
asked_type row id q b t false e = absurd cc
asked_type row id q b t true e = asked_test row id t q b (test_of t q) refl e

asked_means : (row : Row) (id : ℤ) (type : Option ColumnType) (q : Question) (b : BoundPredicate)
    → asked id type q ≡ Ok b
    → predicate_holds row b ≡ Says row id type q
unfolding asked
asked_means row id None q b e = absurd cc
asked_means row id (Some t) q b e = asked_type row id q b t (may_ask t q) e

column_means : (row : Row) (l : Predicate) (b : BoundPredicate) (o : Option meta.Column)
    → (or_fault NoSuchColumn o >>= λ column. asked column.id column.column_type l.question) ≡ Ok b
    → predicate_holds row b ≡ passes (λ (column : meta.Column). Says row column.id column.column_type l.question) o
column_means row l b None e = absurd cc
column_means row l b (Some column) e = asked_means row column.id column.column_type l.question b e

predicate_means : (schema : Schema) (row : Row) (l : Predicate) (b : BoundPredicate) → bound_predicate schema l ≡ Ok b
    → predicate_holds row b ≡ predicate_meets schema row l
unfolding bound_predicate
predicate_means schema row l b e = column_means row l b (column_on (path l.column) schema) e

-- ---- a filter

-- a part over ids counts and says what the part over names does
record Same (schema : Schema) (row : Row) (p : Part Predicate) (q : Part BoundPredicate) : Type 0 where
  counts : (n : ℕ) → operands_after_part n q ≡ operands_after_part n p
  says : (bs : List Bool) → judge_part (predicate_holds row) bs q ≡ judge_part (predicate_meets schema row) bs p

predicate_same : (schema : Schema) (row : Row) (l : Predicate) (q : Part BoundPredicate)
    (r : Result BoundPredicate FilterFault)
    → bound_predicate schema l ≡ r → (r >>= λ b. Ok (part.Predicate b)) ≡ Ok q → Same schema row (part.Predicate l) q
predicate_same schema row l q (Err f) g e = absurd cc
predicate_same schema row l q (Ok b) g e =
    let same : part.Predicate b ≡ q = cc in
    rw (← same) (record { counts = λ n. refl; says = λ bs. ap (λ x. x ∷ bs) (predicate_means schema row l b g) })

part_same : (schema : Schema) (row : Row) (p : Part Predicate) (q : Part BoundPredicate) → bound_part schema p ≡ Ok q
    → Same schema row p q
unfolding bound_part
part_same schema row part.True q e = let same : part.True ≡ q = cc in rw (← same) (record {
  counts = λ n. refl;
  says = λ bs. refl;
})
part_same schema row part.False q e = let same : part.False ≡ q = cc in rw (← same) (record {
  counts = λ n. refl;
  says = λ bs. refl;
})
part_same schema row (part.Predicate l) q e = predicate_same schema row l q (bound_predicate schema l) refl e
part_same schema row part.And q e = let same : part.And ≡ q = cc in rw (← same) (record {
  counts = λ n. refl;
  says = λ bs. refl;
})
part_same schema row part.Or q e = let same : part.Or ≡ q = cc in rw (← same) (record {
  counts = λ n. refl;
  says = λ bs. refl;
})

record AllSame (schema : Schema) (row : Row) (ps : List (Part Predicate))
    (qs : List (Part BoundPredicate)) : Type 0 where
  counts : (n : ℕ) → operands_after n qs ≡ operands_after n ps
  says : (bs : List Bool) → judge_parts (predicate_holds row) bs qs ≡ judge_parts (predicate_meets schema row) bs ps

each_then : (o : Option ℕ) (g h : ℕ → Option ℕ) → ((m : ℕ) → g m ≡ h m) → option_and_then g o ≡ option_and_then h o
each_then None g h e = refl
each_then (Some m) g h e = e m

more_same : (schema : Schema) (row : Row) (p : Part Predicate) (q : Part BoundPredicate) (ps : List (Part Predicate))
    (qs : List (Part BoundPredicate)) → Same schema row p q → AllSame schema row ps qs
    → AllSame schema row (p ∷ ps) (q ∷ qs)
more_same schema row p q ps qs h k = record {
  counts = λ n. ap (λ o. option_and_then (λ m. operands_after m qs) o) (h.counts n) ∙ each_then
      (operands_after_part n p) (λ m. operands_after m qs) (λ m. operands_after m ps) k.counts;
  says = λ bs. ap (λ cs. judge_parts (predicate_holds row) cs qs) (h.says bs)
      ∙ k.says (judge_part (predicate_meets schema row) bs
      p);
}

rest_same : (schema : Schema) (row : Row) (p : Part Predicate) (ps : List (Part Predicate))
    (out : List (Part BoundPredicate))
    → ((qs : List (Part BoundPredicate)) → bound_parts schema ps ≡ Ok qs → AllSame schema row ps qs)
    → (r : Result (Part BoundPredicate) FilterFault) (s : Result (List (Part BoundPredicate)) FilterFault)
    → bound_part schema p ≡ r → bound_parts schema ps ≡ s → (r >>= λ q. s >>= λ qs. Ok (q ∷ qs)) ≡ Ok out
    → AllSame schema row (p ∷ ps) out
rest_same schema row p ps out later (Err f) s g h e = absurd cc
rest_same schema row p ps out later (Ok q) (Err f) g h e = absurd cc
rest_same schema row p ps out later (Ok q) (Ok qs) g h e =
    let same : q ∷ qs ≡ out = cc in
    rw (← same) (more_same schema row p q ps qs (part_same schema row p q g) (later qs h))

all_same : (schema : Schema) (row : Row) (ps : List (Part Predicate)) (qs : List (Part BoundPredicate))
    → bound_parts schema ps ≡ Ok qs → AllSame schema row ps qs
unfolding bound_parts
all_same schema row [] qs e = let same : [] ≡ qs = cc in rw (← same) (record { counts = λ n. refl; says = λ bs. refl })
all_same schema row (p ∷ ps) qs e = rest_same schema row p ps qs (λ rs f. all_same schema row ps rs f)
    (bound_part schema p) (bound_parts schema ps) refl refl e

-- the bound filter says on the row what the filter does
pub bound_means : (schema : Schema) (ps : List (Part Predicate)) (qs : List (Part BoundPredicate))
    → bound_parts schema ps ≡ Ok qs
    → (row : Row) → row_meets qs row ≡ meaning (predicate_meets schema row) (tree_of ps)
bound_means schema ps qs e row =
    sym (judged_tree (predicate_holds row) qs) ∙ ap top ((all_same schema row ps qs e).says []) ∙ judged_tree
    (predicate_meets schema row) ps

-- and it is a filter
pub bound_filter : (schema : Schema) (ps : List (Part Predicate)) (qs : List (Part BoundPredicate))
    → bound_parts schema ps ≡ Ok qs → is_filter ps ≡ true → is_filter qs ≡ true
bound_filter schema ps qs e h = ap is_one_filter ((all_same schema (λ id. Null) ps qs e).counts 0) ∙ h
