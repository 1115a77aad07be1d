-- From the names of columns to their ids (Apache Iceberg table spec v2, "Schemas and Data Types": columns are known by
-- id).
use Rattle.std.specs.Prelude.{ℕ, ℤ, ◌==◌, ◌&&◌, not, Bool, true, false, List, [], ◌∷◌, length, Option, None, Some}
use Rattle.std.specs.Prelude.{Result, Ok, Err, if◌then◌else◌}
use Rattle.std.specs.List.{list_any}
use Rattle.std.specs.Option.{option_map}
use Rattle.std.specs.Ordering.{is_lt, is_le, is_gt, is_ge, is_some_and}
use Rattle.uuid.specs.Text.{parsed as uuid_in}
use Rattle.contract_words.specs.Outcome.{◌>>=◌}
use Rattle.ice_value.specs.declared.cell.Cell.{Cell}
use Rattle.ice_value.specs.declared.cell.Cell.TheVariants as cells
use Rattle.ice_value.specs.declared.column_type.ColumnType.{ColumnType}
use Rattle.ice_value.specs.declared.column_type.ColumnType.TheVariants.{Boolean, Int, Long, Float, Double, Date, Time}
use Rattle.ice_value.specs.declared.column_type.ColumnType.TheVariants.{Timestamp, Timestamptz, String, Uuid, Fixed}
use Rattle.ice_value.specs.declared.column_type.ColumnType.TheVariants.{Binary, Decimal}
use Rattle.ice_value.specs.Bounds.{fits_int}
use Rattle.ice_value.specs.Cells.{order}
use Rattle.ice_meta.specs.declared.schema.Schema.{Schema}
use Rattle.ice_meta.specs.declared.schema.Column as meta
use Rattle.ice_meta.specs.Columns.{column_on}
use Rattle.ice_filter.specs.declared.bound.BoundPredicate.{BoundPredicate}
use Rattle.ice_filter.specs.declared.bound.Test.{Test}
use Rattle.ice_filter.specs.declared.bound.Test.TheVariants as test
use Rattle.ice_filter.specs.declared.fault.FilterFault.{FilterFault}
use Rattle.ice_filter.specs.declared.fault.FilterFault.TheVariants.{NoSuchColumn, NotComparable, WrongLiteral}
use Rattle.ice_filter.specs.declared.predicate.Predicate.{Predicate}
use Rattle.ice_filter.specs.declared.predicate.Column.{Column}
use Rattle.ice_filter.specs.declared.predicate.Literal.{Literal}
use Rattle.ice_filter.specs.declared.predicate.Literal.TheVariants as literal
use Rattle.ice_filter.specs.declared.predicate.Question.{Question}
use Rattle.ice_filter.specs.declared.predicate.Question.TheVariants as question
use Rattle.ice_filter.specs.declared.token.Comparison.{Comparison}
use Rattle.ice_filter.specs.declared.token.Comparison.TheVariants as comparison
use Rattle.ice_filter.specs.declared.parts.Part.{Part}
use Rattle.ice_filter.specs.declared.parts.Part.TheVariants as part
use Rattle.ice_filter.specs.Rows.{Row, is_null, equals, begins}

-- ---- what a column takes

-- the value of a literal in a column of this type, where the column takes it
abbrev pub cell_of : ColumnType → Literal → Option Cell
cell_of Boolean (literal.Truth b) = Some (cells.Bool b)
cell_of Int (literal.Number n) = if fits_int n then Some (cells.Whole n) else None
cell_of Date (literal.Number n) = if fits_int n then Some (cells.Whole n) else None
cell_of Long (literal.Number n) = Some (cells.Whole n)
cell_of Time (literal.Number n) = Some (cells.Whole n)
cell_of Timestamp (literal.Number n) = Some (cells.Whole n)
cell_of Timestamptz (literal.Number n) = Some (cells.Whole n)
cell_of String (literal.Text t) = Some (cells.Text t)
cell_of Uuid (literal.Text t) = option_map cells.Bytes (uuid_in t)
cell_of (Fixed size) (literal.Bytes b) = if length b == size then Some (cells.Bytes b) else None
cell_of Binary (literal.Bytes b) = Some (cells.Bytes b)
cell_of _ _ = None

-- the values of the literals, where the column takes each
abbrev pub with_cell : Option Cell → Option (List Cell) → Option (List Cell)
with_cell (Some c) (Some cs) = Some (c ∷ cs)
with_cell _ _ = None

abbrev pub cells_of : ColumnType → List Literal → Option (List Cell)
cells_of t [] = Some []
cells_of t (l ∷ ls) = with_cell (cell_of t l) (cells_of t ls)

abbrev pub is_order : Comparison → Bool
is_order comparison.Equal = false
is_order comparison.NotEqual = false
is_order _ = true

-- floats, doubles and decimals answer nothing
abbrev pub is_comparable : ColumnType → Bool
is_comparable Float = false
is_comparable Double = false
is_comparable (Decimal precision scale) = false
is_comparable _ = true

abbrev pub is_uuid : ColumnType → Bool
is_uuid Uuid = true
is_uuid _ = false

abbrev pub is_string : ColumnType → Bool
is_string String = true
is_string _ = false

-- uuids have no order here, and strings alone start with something
abbrev pub may_ask : ColumnType → Question → Bool
may_ask t (question.Compare sign l) = is_comparable t && not (is_uuid t && is_order sign)
may_ask t (question.Begins l) = is_string t
may_ask t _ = is_comparable t

-- ---- binding

abbrev pub compared_to : Comparison → Cell → Test
compared_to comparison.Less v = test.Less v
compared_to comparison.AtMost v = test.AtMost v
compared_to comparison.Greater v = test.More v
compared_to comparison.AtLeast v = test.AtLeast v
compared_to comparison.Equal v = test.Among (v ∷ [])
compared_to comparison.NotEqual v = test.NotAmong (v ∷ [])

abbrev pub among : Bool → List Cell → Test
among false vs = test.Among vs
among true vs = test.NotAmong vs

-- the literal as a text
abbrev pub starts : Literal → Option Test
starts (literal.Text t) = Some (test.StartsWith t)
starts _ = None

-- what is asked, over the values of its literals
abbrev pub test_of : ColumnType → Question → Option Test
test_of t (question.Compare sign l) = option_map (compared_to sign) (cell_of t l)
test_of t (question.Among negated ls) = option_map (among negated) (cells_of t (ls.first ∷ ls.more))
test_of t question.Missing = Some test.IsNull
test_of t question.Present = Some test.IsPresent
test_of t (question.Begins l) = starts l

-- the names that lead to the column
abbrev pub path : Column → List (List ℕ)
path c = c.first ∷ c.more

abbrev pub or_fault : {A : Type 0} → FilterFault → Option A → Result A FilterFault
or_fault e None = Err e
or_fault e (Some x) = Ok x

-- the type of a column that may be asked so
abbrev pub type_for : Question → Option ColumnType → Option ColumnType
type_for q None = None
type_for q (Some t) = if may_ask t q then Some t else None

-- the test of a column of this id and type: it may be asked so, and takes the literals, in this order
unfoldable pub asked : ℤ → Option ColumnType → Question → Result BoundPredicate FilterFault
asked id type q =
    or_fault NotComparable (type_for q type) >>= λ t.
    or_fault WrongLiteral (test_of t q) >>= λ test.
    Ok (record { column = id; column_type = t; test = test })

-- the predicate over its column's id: first of all there is such a column
unfoldable pub bound_predicate : Schema → Predicate → Result BoundPredicate FilterFault
bound_predicate schema l = or_fault NoSuchColumn (column_on (path l.column) schema) >>=
    λ column. asked column.id column.column_type l.question

unfoldable pub bound_part : Schema → Part Predicate → Result (Part BoundPredicate) FilterFault
bound_part schema part.True = Ok part.True
bound_part schema part.False = Ok part.False
bound_part schema (part.Predicate l) = bound_predicate schema l >>= λ b. Ok (part.Predicate b)
bound_part schema part.And = Ok part.And
bound_part schema part.Or = Ok part.Or

-- the filter's parts over the ids of columns, or what is wrong with its first predicate at fault
unfoldable pub bound_parts : Schema → List (Part Predicate) → Result (List (Part BoundPredicate)) FilterFault
bound_parts schema [] = Ok []
bound_parts schema (p ∷ ps) = bound_part schema p >>= λ q. bound_parts schema ps >>= λ qs. Ok (q ∷ qs)

-- ---- what a filter over names means on a row

-- the order that a sign asks for between a cell and a value; null has none
abbrev pub is_so : Comparison → Cell → Cell → Bool
is_so comparison.Less c v = is_some_and is_lt (order c v)
is_so comparison.AtMost c v = is_some_and is_le (order c v)
is_so comparison.Greater c v = is_some_and is_gt (order c v)
is_so comparison.AtLeast c v = is_some_and is_ge (order c v)
is_so comparison.Equal c v = equals c v
is_so comparison.NotEqual c v = not (is_null c) && not (equals c v)

-- there is something, and it passes the test
abbrev pub passes : {A : Type 0} → (A → Bool) → Option A → Bool
passes test None = false
passes test (Some x) = test x

abbrev pub is_literal : ColumnType → Cell → Literal → Bool
is_literal t c l = passes (equals c) (cell_of t l)

-- what is asked of a cell of a column of this type: comparisons, `in`, `not in` and `starts with` are false on null
abbrev pub answers : ColumnType → Question → Cell → Bool
answers t (question.Compare sign l) c = passes (is_so sign c) (cell_of t l)
answers t (question.Among false ls) c = list_any (is_literal t c) (ls.first ∷ ls.more)
answers t (question.Among true ls) c = not (is_null c) && not (list_any (is_literal t c) (ls.first ∷ ls.more))
answers t question.Missing c = is_null c
answers t question.Present c = not (is_null c)
answers t (question.Begins (literal.Text s)) c = begins c s
answers t (question.Begins l) c = false

-- the row meets the predicate: what is asked is so of the cell of the column to which its names lead
abbrev pub predicate_meets : Schema → Row → Predicate → Bool
predicate_meets schema row l =
    passes (λ (column : meta.Column). passes (λ t. answers t l.question (row column.id)) column.column_type)
    (column_on (path l.column) schema)
