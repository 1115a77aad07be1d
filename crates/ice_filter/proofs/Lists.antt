-- Lists that loops make.
use Rattle.std.proofs.lemmas.List.{append-nil}
use Rattle.std.proofs.Math.ListN.{drop_of_length-le}
use Rattle.contract_words.specs.Outcome.{◌>>=◌}
use Rattle.std.proofs.Common.{◌≡◌, ℕ, ◌+◌, ◌<◌, ◌≤◌, Result, Ok, Err, List, [], ◌∷◌, ◌++◌, length, drop, get_or, Option}
use Rattle.std.proofs.Common.{None, Some, refl, sym, ◌∙◌, ap, append_assoc, add-one, drop-cons}
use Rattle.ice_value.specs.declared.cell.Cell.{Cell}
use Rattle.ice_value.specs.declared.column_type.ColumnType.{ColumnType}
use Rattle.ice_filter.specs.declared.predicate.Literal.{Literal}
use Rattle.ice_meta.specs.declared.schema.Schema.{Schema}
use Rattle.ice_filter.specs.declared.bound.BoundPredicate.{BoundPredicate}
use Rattle.ice_filter.specs.declared.fault.FilterFault.{FilterFault}
use Rattle.ice_filter.specs.declared.predicate.Predicate.{Predicate}
use Rattle.ice_filter.specs.declared.parts.Part.{Part}
use Rattle.ice_filter.specs.Binding.{cell_of, cells_of, with_cell, bound_part, bound_parts}

-- the cells so far, with those that follow
abbrev pub after_cells : List Cell → Option (List Cell) → Option (List Cell)
after_cells front None = None
after_cells front (Some cs) = Some (front ++ cs)

first_more : (c : Cell) (o : Option (List Cell)) → after_cells (c ∷ []) o ≡ with_cell (Some c) o
first_more c None = refl
first_more c (Some cs) = refl

one_more : (front : List Cell) (c : Cell) (o : Option (List Cell))
    → after_cells front (with_cell (Some c) o) ≡ after_cells (front ++ c ∷ []) o
one_more front c None = refl
one_more front c (Some cs) = ap Some (sym (append_assoc front (c ∷ []) cs))

pub step_of : {A : Type 0} (xs : List A) (i : ℕ) (x : A) → i < length xs → x ≡ get_or xs i x
    → drop i xs ≡ x ∷ drop (i + 1) xs
step_of xs i x lt is = drop-cons xs i x lt ∙ rw (← is, add-one) refl

pub end_of : {A : Type 0} (xs : List A) (i : ℕ) → length xs ≤ i → drop i xs ≡ []
end_of xs i le = drop_of_length-le xs le

pub cell_first : (t : ColumnType) (l : Literal) (ls : List Literal) (c : Cell) → cell_of t l ≡ Some c
    → after_cells (c ∷ []) (cells_of t ls) ≡ cells_of t (l ∷ ls)
cell_first t l ls c e = rw e (first_more c (cells_of t ls))

pub cell_here : (t : ColumnType) (ls : List Literal) (i : ℕ) (l : Literal) (front : List Cell) (c : Cell)
    → i < length ls → l ≡ get_or ls i l → cell_of t l ≡ Some c
    → after_cells front (cells_of t (drop i ls)) ≡ after_cells (front ++ c ∷ []) (cells_of t (drop (i + 1) ls))
cell_here t ls i l front c lt is e = rw (step_of ls i l lt is, e) (one_more front c (cells_of t (drop (i + 1) ls)))

pub no_cell : (t : ColumnType) (ls : List Literal) (i : ℕ) (l : Literal) (front : List Cell) → i < length ls
    → l ≡ get_or ls i l → cell_of t l ≡ None → after_cells front (cells_of t (drop i ls)) ≡ None
no_cell t ls i l front lt is e = rw (step_of ls i l lt is, e) refl

pub cells_end : (t : ColumnType) (ls : List Literal) (i : ℕ) (front : List Cell) → length ls ≤ i
    → after_cells front (cells_of t (drop i ls)) ≡ Some front
cells_end t ls i front le = rw (end_of ls i le) (ap Some (append-nil front))

-- the parts so far, with those that follow
abbrev pub prefixed : List (Part BoundPredicate) → Result (List (Part BoundPredicate)) FilterFault
    → Result (List (Part BoundPredicate)) FilterFault
prefixed front (Ok xs) = Ok (front ++ xs)
prefixed front (Err e) = Err e

pub prefixed_nil : (r : Result (List (Part BoundPredicate)) FilterFault) → prefixed [] r ≡ r
prefixed_nil (Ok qs) = refl
prefixed_nil (Err e) = refl

prefixed_more : (front : List (Part BoundPredicate)) (q : Part BoundPredicate)
    (r : Result (List (Part BoundPredicate)) FilterFault)
    → prefixed front (r >>= λ qs. Ok (q ∷ qs)) ≡ prefixed (front ++ q ∷ []) r
prefixed_more front q (Ok qs) = ap Ok (sym (append_assoc front (q ∷ []) qs))
prefixed_more front q (Err e) = refl

pub part_here : (schema : Schema) (ps : List (Part Predicate)) (i : ℕ) (p : Part Predicate)
    (front : List (Part BoundPredicate))
    (q : Part BoundPredicate) → i < length ps → p ≡ get_or ps i p → bound_part schema p ≡ Ok q
    → prefixed front (bound_parts schema (drop i ps)) ≡ prefixed (front ++ q ∷ [])
    (bound_parts schema (drop (i + 1) ps))
unfolding bound_parts
part_here schema ps i p front q lt is e = rw (step_of ps i p lt is, e)
    (prefixed_more front q (bound_parts schema (drop (i + 1) ps)))

pub part_fails : (schema : Schema) (ps : List (Part Predicate)) (i : ℕ) (p : Part Predicate)
    (front : List (Part BoundPredicate))
    (f : FilterFault) → i < length ps → p ≡ get_or ps i p → bound_part schema p ≡ Err f
    → prefixed front (bound_parts schema (drop i ps)) ≡ Err f
unfolding bound_parts
part_fails schema ps i p front f lt is e = rw (step_of ps i p lt is, e) refl

pub parts_end : (schema : Schema) (ps : List (Part Predicate)) (i : ℕ) (front : List (Part BoundPredicate))
    → length ps ≤ i
    → prefixed front (bound_parts schema (drop i ps)) ≡ Ok front
unfolding bound_parts
parts_end schema ps i front le = rw (end_of ps i le) (ap Ok (append-nil front))
