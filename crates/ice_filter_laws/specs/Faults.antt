-- What is at fault with a predicate of a filter over the columns of a schema, and which fault of a filter is told: each
-- is
-- said by itself here, and not by a walk that stops at the first.
use Rattle.std.specs.Prelude.{◌≡◌, ◌≢◌, ◌↔◌, ◌⊎◌, ◌^◌, ◌<◌, ◌≤◌, ◌≤ℤ◌, ◌<ℤ◌, ℕ, ℤ, pos, neg_ℤ, true, List, [], ◌∷◌}
use Rattle.std.specs.Prelude.{◌++◌, length, slice_get, Option, None, Some, Ok, Err}
use Rattle.std.specs.List.{AllByRecursion, Contains}
use Rattle.uuid.specs.Text.{parsed as uuid_in}
use Rattle.ice_value.specs.declared.column_type.ColumnType.{ColumnType}
use Rattle.ice_value.specs.declared.column_type.ColumnType.TheVariants.{Boolean, Int, Long, Float, Double, Date, Time}
use Rattle.ice_value.specs.declared.column_type.ColumnType.TheVariants.{Timestamp, Timestamptz, String, Uuid, Fixed}
use Rattle.ice_value.specs.declared.column_type.ColumnType.TheVariants.{Binary, Decimal}
use Rattle.ice_meta.specs.declared.schema.Schema.{Schema}
use Rattle.ice_filter.specs.declared.bound.BoundPredicate.{BoundPredicate}
use Rattle.ice_filter.specs.declared.fault.FilterFault.{FilterFault}
use Rattle.ice_filter.specs.declared.fault.FilterFault.TheVariants.{NoSuchColumn, NotComparable, WrongLiteral}
use Rattle.ice_filter.specs.declared.predicate.Predicate.{Predicate}
use Rattle.ice_filter.specs.declared.predicate.Literal.{Literal}
use Rattle.ice_filter.specs.declared.predicate.Literal.TheVariants as literal
use Rattle.ice_filter.specs.declared.predicate.Question.{Question}
use Rattle.ice_filter.specs.declared.predicate.Question.TheVariants as question
use Rattle.ice_filter.specs.declared.token.Comparison.TheVariants.{Equal, NotEqual}
use Rattle.ice_filter.specs.declared.token.Token.{Token}
use Rattle.ice_filter.specs.declared.token.Token.TheVariants as token
use Rattle.ice_filter.specs.declared.parts.Part.{Part}
use Rattle.ice_filter.specs.Binding.{path, bound_parts}
use Rattle.ice_filter.specs.Grammar.{predicate_tokens, words}
use Rattle.ice_filter.specs.Lexing.{tokens_of}
use Rattle.ice_filter.specs.Parsing.{IsReadAs}
use Rattle.ice_filter.specs.Trees.{Tree, truth, predicate, both, either, tree_of, is_filter}
use Rattle.ice_filter_laws.specs.Columns.{IsFound}

-- ---- what a column can be asked

-- nothing can be asked of a float, a double or a decimal, nor of a struct, a list or a map
abbrev pub AnswersNothing : Option ColumnType → Type 0
AnswersNothing None = Unit {0}
AnswersNothing (Some Float) = Unit {0}
AnswersNothing (Some Double) = Unit {0}
AnswersNothing (Some (Decimal precision scale)) = Unit {0}
AnswersNothing (Some type) = ⊥

-- `<`, `<=`, `>` or `>=`
abbrev pub AsksOrder : Question → Type 0
AsksOrder (question.Compare Equal l) = ⊥
AsksOrder (question.Compare NotEqual l) = ⊥
AsksOrder (question.Compare sign l) = Unit {0}
AsksOrder _ = ⊥

-- `starts with`
abbrev pub AsksStart : Question → Type 0
AsksStart (question.Begins l) = Unit {0}
AsksStart _ = ⊥

-- it answers nothing, or has no order and is asked for one, or is no string and is asked how it starts
abbrev pub CannotBeAsked : Option ColumnType → Question → Type 0
CannotBeAsked type q = AnswersNothing type ⊎ (((type ≡ Some Uuid) × AsksOrder q) ⊎ ((type ≢ Some String) × AsksStart q))

-- ---- which literals a column takes

abbrev pub literals : Question → List Literal
literals (question.Compare sign l) = l ∷ []
literals (question.Among negated ls) = ls.first ∷ ls.more
literals question.Missing = []
literals question.Present = []
literals (question.Begins l) = l ∷ []

abbrev pub IsOf32Bits : ℤ → Type 0
IsOf32Bits n = (neg_ℤ (pos (2 ^ 31)) ≤ℤ n) × (n <ℤ pos (2 ^ 31))

-- a date is a number of days, and times are numbers of microseconds; a uuid is a text
abbrev pub Takes : ColumnType → Literal → Type 0
Takes Boolean (literal.Truth b) = Unit {0}
Takes Int (literal.Number n) = IsOf32Bits n
Takes Date (literal.Number n) = IsOf32Bits n
Takes Long (literal.Number n) = Unit {0}
Takes Time (literal.Number n) = Unit {0}
Takes Timestamp (literal.Number n) = Unit {0}
Takes Timestamptz (literal.Number n) = Unit {0}
Takes String (literal.Text t) = Unit {0}
Takes Uuid (literal.Text t) = (uuid : List ℕ) × (uuid_in t ≡ Some uuid)
Takes (Fixed size) (literal.Bytes bytes) = length bytes ≡ size
Takes Binary (literal.Bytes bytes) = Unit {0}
Takes _ _ = ⊥

-- ---- the faults of a predicate

-- the predicate's names lead to a column of this type
abbrev pub IsOfType : Schema → Predicate → Option ColumnType → Type 0
IsOfType schema l type = (id : ℤ) × IsFound (path l.column) schema id type

-- the predicate has this fault: no column has its names; its column can't be asked so; its column doesn't take one of
-- its
-- literals
abbrev pub HasFault : Schema → Predicate → FilterFault → Type 0
HasFault schema l NoSuchColumn = (type : Option ColumnType) → IsOfType schema l type → ⊥
HasFault schema l NotComparable = (type : Option ColumnType) × IsOfType schema l type × CannotBeAsked type l.question
HasFault schema l WrongLiteral = (type : ColumnType) × (wrong : Literal) × IsOfType schema l (Some type)
    × Contains (literals l.question) wrong × (Takes type wrong → ⊥)
HasFault schema l _ = ⊥

-- what is asked first is lower
abbrev pub rank : FilterFault → ℕ
rank NoSuchColumn = 0
rank NotComparable = 1
rank WrongLiteral = 2
rank _ = 3

-- the predicate has this fault, and none that is asked before it
abbrev pub IsFaultOf : Schema → Predicate → FilterFault → Type 0
IsFaultOf schema l f = HasFault schema l f × ((g : FilterFault) → HasFault schema l g → rank f ≤ rank g)

-- nothing is at fault with the predicate
abbrev pub IsSound : Schema → Predicate → Type 0
IsSound schema l = (f : FilterFault) → HasFault schema l f → ⊥

-- ---- the fault of a filter

-- the predicates from left to right
abbrev pub predicates : Tree Predicate → List Predicate
predicates (truth b) = []
predicates (predicate l) = l ∷ []
predicates (both s t) = predicates s ++ predicates t
predicates (either s t) = predicates s ++ predicates t

-- it is the fault of a predicate before which nothing is at fault
abbrev pub IsOfTheFirst : Schema → List Predicate → FilterFault → Type 0
IsOfTheFirst schema ls f = (place : ℕ) × (l : Predicate) × (slice_get ls place ≡ Some l) × IsFaultOf schema l f
    × ((before : ℕ) (other : Predicate) → before < place → slice_get ls before ≡ Some other → IsSound schema other)

-- A filter is refused exactly for the fault of its first predicate at fault,
abbrev pub TellsTheFirst : Type 0
TellsTheFirst = (schema : Schema) (parts : List (Part Predicate)) (f : FilterFault) → is_filter parts ≡ true
    → (bound_parts schema parts ≡ Err f) ↔ IsOfTheFirst schema (predicates (tree_of parts)) f

-- and it is bound exactly where nothing is at fault with any predicate.
abbrev pub BindsSoundPredicates : Type 0
BindsSoundPredicates = (schema : Schema) (parts : List (Part Predicate)) → is_filter parts ≡ true
    → ((bound : List (Part BoundPredicate)) × (bound_parts schema parts ≡ Ok bound))
    ↔ ((l : Predicate) → Contains (predicates (tree_of parts)) l → IsSound schema l)

-- ---- the order of a filter's predicates

-- it belongs to no predicate
abbrev pub IsBetween : Token → Type 0
IsBetween token.Open = Unit {0}
IsBetween token.Close = Unit {0}
IsBetween token.And = Unit {0}
IsBetween token.Or = Unit {0}
IsBetween (token.Truth b) = Unit {0}
IsBetween _ = ⊥

-- the tokens are those of these leaves one after the other, with such between them as belong to none
abbrev pub AreOf : List Predicate → List Token → Type 0
AreOf [] tokens = AllByRecursion IsBetween tokens
AreOf (l ∷ ls) tokens = (before after : List Token) × (tokens ≡ before ++ (predicate_tokens l ++ after))
    × AllByRecursion IsBetween before × AreOf ls after

-- The text of a filter has its predicates in their order.
abbrev pub HasItsPredicatesInOrder : Type 0
HasItsPredicatesInOrder = (text : List ℕ) (filter : Tree Predicate) → IsReadAs text (Ok filter)
    → AreOf (predicates filter) (words (tokens_of text))
