-- A filter as an expression of the Iceberg REST catalog (rest-catalog-open-api.yaml, Expression). A column is named by
-- its full name, a literal is written as the value of its column's type ("JSON single-value serialization").
-- (44 is the comma, 46 the point.)
use Rattle.std.specs.Prelude.{ℕ, Bool, true, false, List, ◌∷◌, ◌++◌, codes, flat_map, map, Option, None, Some}
use Rattle.std.specs.Prelude.{option_and_then, Result, Ok}
use Rattle.contract_words.specs.Outcome.{◌>>=◌}
use Rattle.serde_json.specs.Data.{Data, boolean, string, array, object, Members, no_members, member}
use Rattle.serde_json.specs.View.{items_of}
use Rattle.serde_json.specs.Written.{compact_text}
use Rattle.uuid.specs.Text.{hyphenated_text, lower, parsed as uuid_in}
use Rattle.ice_value.specs.declared.column_type.ColumnType.{ColumnType}
use Rattle.ice_value.specs.declared.column_type.ColumnType.TheVariants.{Uuid}
use Rattle.ice_meta.specs.Columns.{column_on}
use Rattle.ice_meta.specs.Targets.{metadata_of}
use Rattle.ice_meta.specs.declared.metadata.Target.{Target}
use Rattle.ice_meta.specs.declared.schema.Column as meta
use Rattle.ice_meta.specs.declared.schema.Schema.{Schema}
use Rattle.ice_filter.specs.Binding.{path}
use Rattle.ice_filter.specs.Parsing.{parsed}
use Rattle.ice_filter.specs.Trees.{Tree, truth, predicate, both, either, tree_of}
use Rattle.ice_filter.specs.declared.predicate.Column.{Column}
use Rattle.ice_filter.specs.declared.predicate.Literal.{Literal}
use Rattle.ice_filter.specs.declared.predicate.Literal.TheVariants as literal
use Rattle.ice_filter.specs.declared.predicate.Predicate.{Predicate}
use Rattle.ice_filter.specs.declared.predicate.Question.{Question}
use Rattle.ice_filter.specs.declared.predicate.Question.TheVariants as question
use Rattle.ice_filter.specs.declared.token.Comparison.{Comparison}
use Rattle.ice_filter.specs.declared.token.Comparison.TheVariants.{Less, AtMost, Greater, AtLeast, Equal, NotEqual}
use Rattle.icescan_text.specs.Faults.{of_filter, of_meta}
use Rattle.icescan_text.specs.Reads.{as_run, schema_of}
use Rattle.icescan_text.specs.declared.fault.RunFault.{RunFault}
use Rattle.icescan_text.specs.declared.request.Request.{Request}
use Rattle.icescan_json.specs.Values.{hex_text, whole_json}

-- ---- columns and literals

-- the full name: the names that lead to the column, with points between them
abbrev pub full_name : Column → List ℕ
full_name c = c.first ++ flat_map (λ name. 46 ∷ name) c.more

-- the type of the column, where it is there and has one
abbrev pub type_named : Schema → Column → Option ColumnType
type_named schema c = option_and_then (λ (column : meta.Column). column.column_type) (column_on (path c) schema)

-- a UUID in the hyphenated form, whichever it was asked in
abbrev pub uuid_or : List ℕ → Option (List ℕ) → List ℕ
uuid_or text (Some bytes) = hyphenated_text lower bytes
uuid_or text None = text

abbrev pub text_json : Option ColumnType → List ℕ → Data
text_json (Some Uuid) text = string (uuid_or text (uuid_in text))
text_json _ text = string text

abbrev pub literal_json : Option ColumnType → Literal → Data
literal_json t (literal.Truth b) = boolean b
literal_json t (literal.Number n) = whole_json t n
literal_json t (literal.Text text) = text_json t text
literal_json t (literal.Bytes bytes) = string (hex_text bytes)

-- ---- predicates

abbrev pub comparison_name : Comparison → List ℕ
comparison_name Less = codes "lt"
comparison_name AtMost = codes "lt-eq"
comparison_name Greater = codes "gt"
comparison_name AtLeast = codes "gt-eq"
comparison_name Equal = codes "eq"
comparison_name NotEqual = codes "not-eq"

abbrev pub among_name : Bool → List ℕ
among_name false = codes "in"
among_name true = codes "not-in"

-- what is asked of the column of this name, and by what
abbrev pub asked_json : List ℕ → List ℕ → Members → Data
asked_json type name with =
    object (member (codes "type") (string type) (member (codes "term") (string name) with))

abbrev pub question_json : List ℕ → Option ColumnType → Question → Data
question_json name t (question.Compare sign l) =
    asked_json (comparison_name sign) name (member (codes "value") (literal_json t l) no_members)
question_json name t (question.Among negated ls) = asked_json (among_name negated) name
    (member (codes "values") (array (items_of (map (literal_json t) (ls.first ∷ ls.more)))) no_members)
question_json name t question.Missing = asked_json (codes "is-null") name no_members
question_json name t question.Present = asked_json (codes "not-null") name no_members
question_json name t (question.Begins l) =
    asked_json (codes "starts-with") name (member (codes "value") (literal_json t l) no_members)

abbrev pub predicate_json : Schema → Predicate → Data
predicate_json schema l = question_json (full_name l.column) (type_named schema l.column) l.question

-- ---- filters

abbrev pub joined_json : List ℕ → Data → Data → Data
joined_json type left right =
    object (member (codes "type") (string type) (member (codes "left") left (member (codes "right") right no_members)))

-- the filter, over the columns of a schema
abbrev pub expression_json : Schema → Tree Predicate → Data
expression_json schema (truth b) = boolean b
expression_json schema (predicate l) = predicate_json schema l
expression_json schema (both s t) = joined_json (codes "and") (expression_json schema s) (expression_json schema t)
expression_json schema (either s t) = joined_json (codes "or") (expression_json schema s) (expression_json schema t)

-- ---- what a request asks for

-- The text of a filter's expression, over the columns of the schema that counts for the snapshot; or the first refusal,
-- of the metadata or of the filter's text. A request that has a plan is not refused.
unfoldable pub filter_text : List ℕ → Target → List ℕ → Result (List ℕ) RunFault
filter_text metadata target text = do
  described ← as_run of_meta (metadata_of metadata)
  parts ← as_run of_filter (parsed text)
  schema ← as_run of_meta (schema_of target described.table)
  Ok (compact_text (expression_json schema (tree_of parts)))

-- without a filter every row is asked for
abbrev pub every_row_text : List ℕ
every_row_text = compact_text (boolean true)

abbrev pub text_if_asked : List ℕ → Target → Option (List ℕ) → Result (List ℕ) RunFault
text_if_asked metadata target None = Ok every_row_text
text_if_asked metadata target (Some text) = filter_text metadata target text

-- the text of what a request asks for
unfoldable pub asked_text : List ℕ → Request → Result (List ℕ) RunFault
asked_text metadata request = text_if_asked metadata request.target request.filter
