-- The text of an expression's JSON, as it is made. No public contract cites these words. (44 is the comma.)
use Rattle.std.specs.Prelude.{ℕ, List, [], ◌∷◌, ◌++◌, codes, flat_map, Option}
use Rattle.json.specs.Print.{quoted}
use Rattle.serde_json.specs.Written.{compact_text}
use Rattle.ice_value.specs.declared.column_type.ColumnType.{ColumnType}
use Rattle.ice_meta.specs.declared.schema.Schema.{Schema}
use Rattle.ice_filter.specs.declared.parts.Part as parts
use Rattle.ice_filter.specs.declared.parts.Part.TheVariants.{True, False, And, Or}
use Rattle.ice_filter.specs.declared.parts.Part.TheVariants as part
use Rattle.ice_filter.specs.declared.predicate.Choices.{Choices}
use Rattle.ice_filter.specs.declared.predicate.Literal.{Literal}
use Rattle.ice_filter.specs.declared.predicate.Predicate.{Predicate}
use Rattle.ice_filter.specs.declared.predicate.Question.{Question}
use Rattle.ice_filter.specs.declared.predicate.Question.TheVariants as question
use Rattle.icescan_json.specs.Expressions.{among_name, comparison_name, literal_json, predicate_json}

-- what is asked of the column of this name
abbrev pub question_front : List ℕ → List ℕ → List ℕ
question_front type name = codes "{\"type\":\"" ++ (type ++ (codes "\",\"term\":" ++ quoted name))

abbrev pub literal_text : Option ColumnType → Literal → List ℕ
literal_text t l = compact_text (literal_json t l)

abbrev pub choices_text : Option ColumnType → Choices → List ℕ
choices_text t ls = literal_text t ls.first ++ flat_map (λ l. 44 ∷ literal_text t l) ls.more

-- by what it is asked, and the end
abbrev pub value_text : Option ColumnType → Literal → List ℕ
value_text t l = codes ",\"value\":" ++ (literal_text t l ++ codes "}")

abbrev pub values_text : Option ColumnType → Choices → List ℕ
values_text t ls = codes ",\"values\":[" ++ (choices_text t ls ++ codes "]}")

abbrev pub asked_name : Question → List ℕ
asked_name (question.Compare sign l) = comparison_name sign
asked_name (question.Among negated ls) = among_name negated
asked_name question.Missing = codes "is-null"
asked_name question.Present = codes "not-null"
asked_name (question.Begins l) = codes "starts-with"

abbrev pub asked_by : Option ColumnType → Question → List ℕ
asked_by t (question.Compare sign l) = value_text t l
asked_by t (question.Among negated ls) = values_text t ls
asked_by t question.Missing = codes "}"
asked_by t question.Present = codes "}"
asked_by t (question.Begins l) = value_text t l

abbrev pub question_text : List ℕ → Option ColumnType → Question → List ℕ
question_text name t q = question_front (asked_name q) name ++ asked_by t q

abbrev pub joined_text : List ℕ → List ℕ → List ℕ → List ℕ
joined_text type left right = codes "{\"type\":\"" ++ (type ++ (codes "\",\"left\":" ++ (left
    ++ (codes ",\"right\":" ++ (right ++ codes "}")))))

-- ---- a filter's parts read with texts in place of filters

abbrev pub top : List (List ℕ) → List ℕ
top [] = codes "true"
top (t ∷ ts) = t

abbrev pub rest : List (List ℕ) → List (List ℕ)
rest [] = []
rest (t ∷ ts) = ts

-- the texts that wait for an operator after one more part, the last one first
abbrev pub put : Schema → List (List ℕ) → parts.Part Predicate → List (List ℕ)
put schema ts True = codes "true" ∷ ts
put schema ts False = codes "false" ∷ ts
put schema ts (part.Predicate l) = compact_text (predicate_json schema l) ∷ ts
put schema ts And = joined_text (codes "and") (top (rest ts)) (top ts) ∷ rest (rest ts)
put schema ts Or = joined_text (codes "or") (top (rest ts)) (top ts) ∷ rest (rest ts)

abbrev pub put_all : Schema → List (List ℕ) → List (parts.Part Predicate) → List (List ℕ)
put_all schema ts [] = ts
put_all schema ts (p ∷ ps) = put_all schema (put schema ts p) ps
