-- The text of a filter, as messages show it: parentheses stand where the filter needs them alone, names in quotes where
-- they would be read as something else.
use Rattle.std.specs.Prelude.{ℕ, ◌==◌, ◌&&◌, ◌||◌, Bool, true, false, not, List, [], ◌∷◌, ◌++◌, length, codes, flat_map}
use Rattle.std.specs.Prelude.{if◌then◌else◌}
use Rattle.std.specs.Fmt.{signed_decimal}
use Rattle.std.specs.Str.{bytes_eq}
use Rattle.hex.specs.Hex.{encode_lower}
use Rattle.ice_filter.specs.declared.predicate.Predicate.{Predicate}
use Rattle.ice_filter.specs.declared.predicate.Column.{Column}
use Rattle.ice_filter.specs.declared.predicate.Choices.{Choices}
use Rattle.ice_filter.specs.declared.predicate.Literal.{Literal}
use Rattle.ice_filter.specs.declared.predicate.Literal.TheVariants as literal
use Rattle.ice_filter.specs.declared.predicate.Question.{Question}
use Rattle.ice_filter.specs.declared.predicate.Question.TheVariants as question
use Rattle.ice_filter.specs.declared.token.Comparison.{Comparison}
use Rattle.ice_filter.specs.declared.token.Comparison.TheVariants.{Less, AtMost, Greater, AtLeast, Equal, NotEqual}
use Rattle.ice_filter.specs.Lexing.{is_letter, is_name_byte, run_from}
use Rattle.ice_filter.specs.Trees.{Tree, truth, predicate, both, either}

-- each quote twice
unfoldable pub doubled : ℕ → List ℕ → List ℕ
doubled q [] = []
doubled q (b ∷ bs) = if b == q then q ∷ q ∷ doubled q bs else b ∷ doubled q bs

-- the text between quotes
abbrev pub in_quotes : ℕ → List ℕ → List ℕ
in_quotes q text = q ∷ (doubled q text ++ q ∷ [])

-- a word of the language
unfoldable pub is_word : List ℕ → Bool
is_word name =
    bytes_eq name (codes "and") || bytes_eq name (codes "or") || bytes_eq name (codes "not")
    || bytes_eq name (codes "in") || bytes_eq name (codes "is") || bytes_eq name (codes "null")
    || bytes_eq name (codes "starts") || bytes_eq name (codes "with")
    || bytes_eq name (codes "true") || bytes_eq name (codes "false")

-- the name is read as itself without quotes: ASCII letters, digits and _, no digit first, and no word
abbrev pub is_bare : List ℕ → Bool
is_bare [] = false
is_bare (b ∷ bs) = is_letter b && run_from is_name_byte 0 (b ∷ bs) == length (b ∷ bs) && not (is_word (b ∷ bs))

abbrev pub name_text : List ℕ → List ℕ
name_text name = if is_bare name then name else in_quotes 34 name

abbrev pub dotted_text : List ℕ → List ℕ
dotted_text name = 46 ∷ name_text name

abbrev pub column_text : Column → List ℕ
column_text c = name_text c.first ++ flat_map dotted_text c.more

abbrev pub truth_text : Bool → List ℕ
truth_text true = codes "true"
truth_text false = codes "false"

abbrev pub bytes_text : List ℕ → List ℕ
bytes_text bytes = codes "x'" ++ (encode_lower bytes ++ 39 ∷ [])

abbrev pub literal_text : Literal → List ℕ
literal_text (literal.Truth b) = truth_text b
literal_text (literal.Number n) = signed_decimal n
literal_text (literal.Text t) = in_quotes 39 t
literal_text (literal.Bytes b) = bytes_text b

abbrev pub listed_text : Literal → List ℕ
listed_text l = codes ", " ++ literal_text l

abbrev pub choices_text : Choices → List ℕ
choices_text c = literal_text c.first ++ flat_map listed_text c.more

abbrev pub sign_text : Comparison → List ℕ
sign_text Less = codes " < "
sign_text AtMost = codes " <= "
sign_text Greater = codes " > "
sign_text AtLeast = codes " >= "
sign_text Equal = codes " = "
sign_text NotEqual = codes " != "

abbrev pub in_text : Bool → List ℕ
in_text false = codes " in ("
in_text true = codes " not in ("

abbrev pub question_text : Question → List ℕ
question_text (question.Compare sign l) = sign_text sign ++ literal_text l
question_text (question.Among negated c) = in_text negated ++ (choices_text c ++ codes ")")
question_text question.Missing = codes " is null"
question_text question.Present = codes " is not null"
question_text (question.Begins l) = codes " starts with " ++ literal_text l

abbrev pub predicate_text : Predicate → List ℕ
predicate_text l = column_text l.column ++ question_text l.question

-- with parentheses or without
abbrev pub enclosed : Bool → List ℕ → List ℕ
enclosed true text = codes "(" ++ (text ++ codes ")")
enclosed false text = text

abbrev pub is_either : Tree Predicate → Bool
is_either (either s t) = true
is_either _ = false

abbrev pub is_operator : Tree Predicate → Bool
is_operator (both s t) = true
is_operator (either s t) = true
is_operator _ = false

-- The filter's text. `or` is enclosed as an operand of `and`, and an operator as its own second operand.
abbrev pub shown : Tree Predicate → List ℕ
shown (truth b) = truth_text b
shown (predicate l) = predicate_text l
shown (both s t) = enclosed (is_either s) (shown s) ++ (codes " and " ++ enclosed (is_operator t) (shown t))
shown (either s t) = shown s ++ (codes " or " ++ enclosed (is_either t) (shown t))
