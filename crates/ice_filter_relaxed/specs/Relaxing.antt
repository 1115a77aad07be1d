-- Filters that ask less: `true` stands in the place of each predicate that can't be asked of its column for the
-- column's type. No operator of a filter negates what it holds (`not in` and `is not null` stand inside a predicate), so
-- no row that meets the filter is lost.
use Rattle.std.specs.Prelude.{◌≡◌, ◌↔◌, ℕ, Bool, true, false, List, [], ◌∷◌, map, Result, Ok, Err, if◌then◌else◌}
use Rattle.std.specs.List.{flat_map}
use Rattle.ice_meta.specs.declared.schema.Schema.{Schema}
use Rattle.ice_filter.specs.declared.fault.FilterFault.{FilterFault}
use Rattle.ice_filter.specs.declared.fault.FilterFault.TheVariants.{NotComparable}
use Rattle.ice_filter.specs.declared.predicate.Predicate.{Predicate}
use Rattle.ice_filter.specs.declared.parts.Part.{Part}
use Rattle.ice_filter.specs.declared.parts.Part.TheVariants as part
use Rattle.ice_filter.specs.Binding.{bound_predicate, predicate_meets}
use Rattle.ice_filter.specs.Parsing.{filter_of, parsed}
use Rattle.ice_filter.specs.Rows.{Row}
use Rattle.ice_filter.specs.Texts.{predicate_text, shown}
use Rattle.ice_filter.specs.Trees.{Tree, meaning, tree_of}

abbrev pub is_not_comparable : {A : Type 0} → Result A FilterFault → Bool
is_not_comparable (Err NotComparable) = true
is_not_comparable _ = false

-- its column is there, and can't be compared so
abbrev pub is_unasked : Schema → Predicate → Bool
is_unasked schema l = is_not_comparable (bound_predicate schema l)

abbrev pub relaxed_part : Schema → Part Predicate → Part Predicate
relaxed_part schema (part.Predicate l) = if is_unasked schema l then part.True else part.Predicate l
relaxed_part schema part.True = part.True
relaxed_part schema part.False = part.False
relaxed_part schema part.And = part.And
relaxed_part schema part.Or = part.Or

-- the relaxed filter
abbrev pub relaxed : Schema → List (Part Predicate) → List (Part Predicate)
relaxed schema parts = map (relaxed_part schema) parts

-- the texts of the predicates that are not asked, in the order of the filter
abbrev pub unasked_in : Schema → Part Predicate → List (List ℕ)
unasked_in schema (part.Predicate l) = if is_unasked schema l then predicate_text l ∷ [] else []
unasked_in schema part.True = []
unasked_in schema part.False = []
unasked_in schema part.And = []
unasked_in schema part.Or = []

abbrev pub unasked : Schema → List (Part Predicate) → List (List ℕ)
unasked schema parts = flat_map (unasked_in schema) parts

-- ---- what it means

-- Each predicate that is asked is as true as it is on the row; the others may be true or false, each as an engine has
-- it.
abbrev pub IsTruth : Schema → Row → (Predicate → Bool) → Type 0
IsTruth schema row met = (l : Predicate) → is_unasked schema l ≡ false → met l ≡ predicate_meets schema row l

-- the row meets the filter, for some truth of the predicates that are not asked
abbrev pub MayMeet : Schema → List (Part Predicate) → Row → Type 0
MayMeet schema parts row = (met : Predicate → Bool) × IsTruth schema row met × (meaning met (tree_of parts) ≡ true)

-- A row meets the relaxed filter exactly where it may meet the filter,
abbrev pub IsMetWhereTheFilterMayBe : Type 0
IsMetWhereTheFilterMayBe = (schema : Schema) (parts : List (Part Predicate)) (row : Row)
    → (meaning (predicate_meets schema row) (tree_of (relaxed schema parts)) ≡ true) ↔ MayMeet schema parts row

-- and the text of a relaxed filter is read as that filter.
abbrev pub IsReadFromItsText : Type 0
IsReadFromItsText = (schema : Schema) (text : List ℕ) (parts : List (Part Predicate)) → parsed text ≡ Ok parts
    → filter_of (shown (tree_of (relaxed schema parts))) ≡ Ok (tree_of (relaxed schema parts))
