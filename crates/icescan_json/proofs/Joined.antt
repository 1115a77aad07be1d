-- The stack of texts stands for the stack of filters, and texts of expressions are those of their JSON.
use Rattle.std.proofs.Common.{◌≡◌, ℕ, List, [], ◌∷◌, ◌++◌, reverse, map, refl, ap, ◌∙◌, append_assoc, flat_map, Option}
use Rattle.std.specs.Prelude.{codes, true, false}
use Rattle.std.proofs.lemmas.List.{reverse-append}
use Rattle.json.specs.Print.{escape_byte, quoted}
use Rattle.serde_json.specs.View.{items_of}
use Rattle.serde_json.specs.Written.{compact_text, items_text}
use Rattle.ice_value.specs.declared.column_type.ColumnType.{ColumnType}
use Rattle.ice_meta.specs.declared.schema.Schema.{Schema}
use Rattle.ice_filter.specs.Trees.{Tree, both, either, read_part, read_parts, tree_of}
use Rattle.ice_filter.specs.Trees.{top as top_tree, rest as rest_trees}
use Rattle.ice_filter.specs.declared.parts.Part as parts
use Rattle.ice_filter.specs.declared.parts.Part.TheVariants.{True, False, And, Or}
use Rattle.ice_filter.specs.declared.parts.Part.TheVariants as part
use Rattle.ice_filter.specs.declared.predicate.Choices.{Choices}
use Rattle.ice_filter.specs.declared.predicate.Literal.{Literal}
use Rattle.ice_filter.specs.declared.predicate.Predicate.{Predicate}
use Rattle.ice_filter.specs.declared.predicate.Question.{Question}
use Rattle.ice_filter.specs.declared.predicate.Question.TheVariants as question
use Rattle.ice_filter.specs.declared.token.Comparison.TheVariants.{Less, AtMost, Greater, AtLeast, Equal, NotEqual}
use Rattle.icescan_json.specs.Expressions.{expression_json, literal_json, question_json}
use Rattle.icescan_json.specs.ExpressionTexts.{choices_text, joined_text, literal_text, put, put_all, question_front}
use Rattle.icescan_json.specs.ExpressionTexts.{question_text, top, rest}

pub pushed_first : {A : Type 0} (xs : List A) (x : A) → reverse (xs ++ x ∷ []) ≡ x ∷ reverse xs
pushed_first xs x = reverse-append xs (x ∷ [])

-- what three pieces put last come to
pub three : (m0 m1 m2 m3 a b c : List ℕ) → m1 ≡ m0 ++ a → m2 ≡ m1 ++ b → m3 ≡ m2 ++ c → m3 ≡ m0 ++ (a ++ (b ++ c))
three m0 m1 m2 m3 a b c p q r = r ∙ rw (q, p) (simp append_assoc)

-- and one more in front of what was put
pub in_front : (m0 m1 m2 a b : List ℕ) → m1 ≡ m0 ++ a → m2 ≡ m1 ++ b → m2 ≡ m0 ++ (a ++ b)
in_front m0 m1 m2 a b p q = q ∙ rw p (append_assoc m0 a b)

-- ---- predicates

more_choices : (t : Option ColumnType) (ls : List Literal) → items_text true (items_of (map (literal_json t) ls))
    ≡ flat_map (λ l. 44 ∷ literal_text t l) ls ++ 93 ∷ []
more_choices t [] = refl
more_choices t (l ∷ ls) = rw (more_choices t ls) (simp append_assoc)

choices_are : (t : Option ColumnType) (ls : Choices)
    → items_text false (items_of (map (literal_json t) (ls.first ∷ ls.more))) ≡ choices_text t ls ++ 93 ∷ []
choices_are t ls =
    ap (λ more. literal_text t ls.first ++ more) (more_choices t ls.more) ∙ simp append_assoc

in_is : (name items : List ℕ) → codes "{\"type\":\"in\",\"term\":" ++ (quoted name ++ (codes ",\"values\":["
    ++ ((items ++ 93 ∷ []) ++ 125 ∷ []))) ≡ question_front (codes "in") name
    ++ (codes ",\"values\":[" ++ (items ++ codes "]}"))
in_is name items = simp append_assoc

not_in_is : (name items : List ℕ) → codes "{\"type\":\"not-in\",\"term\":" ++ (quoted name ++ (codes ",\"values\":["
    ++ ((items ++ 93 ∷ []) ++ 125 ∷ []))) ≡ question_front (codes "not-in") name
    ++ (codes ",\"values\":[" ++ (items ++ codes "]}"))
not_in_is name items = simp append_assoc

pub question_is : (name : List ℕ) (t : Option ColumnType) (q : Question)
    → compact_text (question_json name t q) ≡ question_text name t q
unfolding escape_byte
question_is name t (question.Compare Less l) = simp append_assoc
question_is name t (question.Compare AtMost l) = simp append_assoc
question_is name t (question.Compare Greater l) = simp append_assoc
question_is name t (question.Compare AtLeast l) = simp append_assoc
question_is name t (question.Compare Equal l) = simp append_assoc
question_is name t (question.Compare NotEqual l) = simp append_assoc
question_is name t (question.Among false ls) =
    ap (λ items. codes "{\"type\":\"in\",\"term\":" ++ (quoted name ++ (codes ",\"values\":[" ++ (items ++ 125 ∷ []))))
    (choices_are t ls) ∙ in_is name (choices_text t ls)
question_is name t (question.Among true ls) =
    ap (λ items. codes "{\"type\":\"not-in\",\"term\":" ++ (quoted name ++ (codes ",\"values\":["
    ++ (items ++ 125 ∷ [])))) (choices_are t ls) ∙ not_in_is name (choices_text t ls)
question_is name t question.Missing = simp append_assoc
question_is name t question.Present = simp append_assoc
question_is name t (question.Begins l) = simp append_assoc

-- ---- filters

module _ (schema : Schema) where
  abbrev pub text_of : Tree Predicate → List ℕ
  text_of t = compact_text (expression_json schema t)

  map_top : (ts : List (Tree Predicate)) → top (map text_of ts) ≡ text_of (top_tree ts)
  map_top [] = refl
  map_top (t ∷ ts) = refl

  map_rest : (ts : List (Tree Predicate)) → rest (map text_of ts) ≡ map text_of (rest_trees ts)
  map_rest [] = refl
  map_rest (t ∷ ts) = refl

  both_is : (s t : Tree Predicate) → joined_text (codes "and") (text_of s) (text_of t) ≡ text_of (both s t)
  unfolding escape_byte
  both_is s t = refl

  either_is : (s t : Tree Predicate) → joined_text (codes "or") (text_of s) (text_of t) ≡ text_of (either s t)
  unfolding escape_byte
  either_is s t = refl

  put_part : (ts : List (Tree Predicate)) (p : parts.Part Predicate)
      → put schema (map text_of ts) p ≡ map text_of (read_part ts p)
  put_part ts True = refl
  put_part ts False = refl
  put_part ts (part.Predicate l) = refl
  put_part ts And =
      rw (
        map_rest ts,
        map_rest (rest_trees ts),
        map_top ts,
        map_top (rest_trees ts),
        both_is (top_tree (rest_trees ts)) (top_tree ts),
      ) refl
  put_part ts Or =
      rw (
        map_rest ts,
        map_rest (rest_trees ts),
        map_top ts,
        map_top (rest_trees ts),
        either_is (top_tree (rest_trees ts)) (top_tree ts),
      ) refl

  put_parts : (ts : List (Tree Predicate)) (ps : List (parts.Part Predicate))
      → put_all schema (map text_of ts) ps ≡ map text_of (read_parts ts ps)
  put_parts ts [] = refl
  put_parts ts (p ∷ ps) = ap (λ qs. put_all schema qs ps) (put_part ts p) ∙ put_parts (read_part ts p) ps

  -- the last text is the filter's
  pub joined : (ps : List (parts.Part Predicate)) → top (put_all schema [] ps) ≡ text_of (tree_of ps)
  joined ps = ap top (put_parts [] ps) ∙ map_top (read_parts [] ps)
