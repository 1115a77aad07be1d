-- The text of a filter says that filter.
use Rattle.std.proofs.Common.{◌≡◌, ℕ, ◌-◌, ◌<◌, Bool, true, false, List, [], ◌∷◌, ◌++◌, length, flat_map, Ok, refl, sym}
use Rattle.std.proofs.Common.{subst, ◌∙◌, arith}
use Rattle.std.proofs.lemmas.List.{append-nil}
use Rattle.std.specs.Prelude.{codes}
use Rattle.ice_filter.specs.declared.predicate.Predicate.{Predicate}
use Rattle.ice_filter.specs.declared.predicate.Column.{Column}
use Rattle.ice_filter.specs.declared.predicate.Choices.{Choices}
use Rattle.ice_filter.specs.declared.predicate.Literal.{Literal}
use Rattle.ice_filter.specs.declared.predicate.Question.{Question}
use Rattle.ice_filter.specs.declared.predicate.Question.TheVariants as question
use Rattle.ice_filter.specs.declared.token.Token.{Token}
use Rattle.ice_filter.specs.declared.token.Token.TheVariants as token
use Rattle.ice_filter.specs.declared.token.Comparison.{Comparison}
use Rattle.ice_filter.specs.declared.token.Comparison.TheVariants as sign
use Rattle.ice_filter.specs.Grammar.{
  Written,
  truth,
  predicate,
  group,
  both,
  either,
  bare,
  unit,
  conj,
  filter,
  Level,
  Stands,
}
use Rattle.ice_filter.specs.Grammar.{Says, Reads, tokens_in, predicate_tokens, column_tokens, question_tokens}
use Rattle.ice_filter.specs.Grammar.{choices_tokens, literal_token, dotted, listed, predicates_in, IsShallow, IsWithin}
use Rattle.ice_filter.specs.Grammar.{Limits, limits, words}
use Rattle.ice_filter.specs.Lexing.{run_from, word_of, front_at, mark_at, tokens_of}
use Rattle.ice_filter.specs.Parsing.{filter_of}
use Rattle.ice_filter.specs.Texts.{name_text, dotted_text, column_text, literal_text, listed_text, choices_text}
use Rattle.ice_filter.specs.Texts.{sign_text, question_text, predicate_text, enclosed, is_either, is_operator, shown}
use Rattle.ice_filter.specs.Trees.{Tree, truth as always, predicate as single, both as all_of, either as one_of}
use Rattle.ice_filter.proofs.Halts.{shallow_more}
use Rattle.ice_filter.proofs.Lexed.{lexed, words_lexed, end, blank, close, comma, dot, after, Lexes, LexesAlways}
use Rattle.ice_filter.proofs.Lexed.{IsStop, lexes_more, lexes_behind, lexes_always}
use Rattle.ice_filter.proofs.Names.{name_lexed}
use Rattle.ice_filter.proofs.Origins.{AllRead, lexed_read}
use Rattle.ice_filter.proofs.Shapes.{text_reads}
use Rattle.ice_filter.proofs.Spelled.{literal_lexed, truth_lexed}
use Rattle.ice_filter.proofs.Unique.{one_reading}

all_front : (xs ys : List Token) → AllRead (xs ++ ys) → AllRead xs
all_front [] ys h = tt
all_front (x ∷ xs) ys h = (h.0, all_front xs ys h.1)

all_back : (xs ys : List Token) → AllRead (xs ++ ys) → AllRead ys
all_back [] ys h = h
all_back (x ∷ xs) ys h = all_back xs ys h.1

-- ---- columns

stop_blank : (bs : List ℕ) → IsStop (32 ∷ bs)
stop_blank bs s = (blank (bs ++ after s), refl)

dot_always : LexesAlways (46 ∷ []) (token.Dot ∷ [])
unfolding lexed front_at mark_at
dot_always rest = refl

nothing_lexed : Lexes [] []
nothing_lexed s = refl

dotted_stop : (more : List (List ℕ)) → IsStop (flat_map dotted_text more)
dotted_stop [] s = (s, refl)
dotted_stop (n ∷ more) s = (dot ((name_text n ++ flat_map dotted_text more) ++ after s), refl)

dotted_lexed : (more : List (List ℕ)) → AllRead (flat_map dotted more)
    → Lexes (flat_map dotted_text more) (flat_map dotted more)
dotted_lexed [] h = nothing_lexed
dotted_lexed (n ∷ more) h =
    lexes_behind (46 ∷ []) (name_text n ++ flat_map dotted_text more) (token.Dot ∷ []) (token.Name n ∷ flat_map dotted
    more) dot_always
    (lexes_more (name_text n) (flat_map dotted_text more) (token.Name n ∷ []) (flat_map dotted more)
    (name_lexed n (h.1.0.name n refl)) (dotted_stop more) (dotted_lexed more h.1.1))

column_lexed : (c : Column) → AllRead (column_tokens c) → Lexes (column_text c) (column_tokens c)
column_lexed c h =
    lexes_more (name_text c.first) (flat_map dotted_text c.more) (token.Name c.first ∷ []) (flat_map dotted c.more)
    (name_lexed c.first (h.0.name c.first refl)) (dotted_stop c.more) (dotted_lexed c.more h.1)

-- ---- questions

comma_always : LexesAlways (codes ", ") (token.Comma ∷ [])
unfolding lexed front_at mark_at
comma_always rest = refl

listed_stop : (more : List Literal) → IsStop (flat_map listed_text more)
listed_stop [] s = (s, refl)
listed_stop (l ∷ more) s = (comma (32 ∷ ((literal_text l ++ flat_map listed_text more) ++ after s)), refl)

listed_lexed : (more : List Literal) → AllRead (flat_map listed more)
    → Lexes (flat_map listed_text more) (flat_map listed more)
listed_lexed [] h = nothing_lexed
listed_lexed (l ∷ more) h =
    lexes_behind (codes ", ") (literal_text l ++ flat_map listed_text more) (token.Comma ∷ [])
    (literal_token l ∷ flat_map listed more) comma_always
    (lexes_more (literal_text l) (flat_map listed_text more) (literal_token l ∷ []) (flat_map listed more)
    (literal_lexed l h.1.0) (listed_stop more) (listed_lexed more h.1.1))

choices_lexed : (c : Choices) → AllRead (choices_tokens c) → Lexes (choices_text c) (choices_tokens c)
choices_lexed c h =
    lexes_more (literal_text c.first) (flat_map listed_text c.more) (literal_token c.first ∷ [])
    (flat_map listed c.more) (literal_lexed c.first h.0) (listed_stop c.more) (listed_lexed c.more h.1)

sign_always : (s : Comparison) → LexesAlways (sign_text s) (token.Sign s ∷ [])
unfolding lexed front_at mark_at
sign_always sign.Less rest = refl
sign_always sign.AtMost rest = refl
sign_always sign.Greater rest = refl
sign_always sign.AtLeast rest = refl
sign_always sign.Equal rest = refl
sign_always sign.NotEqual rest = refl

in_always : LexesAlways (codes " in (") (token.In ∷ token.Open ∷ [])
unfolding lexed front_at mark_at run_from word_of
in_always rest = refl

not_in_always : LexesAlways (codes " not in (") (token.Not ∷ token.In ∷ token.Open ∷ [])
unfolding lexed front_at mark_at run_from word_of
not_in_always rest = refl

starts_always : LexesAlways (codes " starts with ") (token.Starts ∷ token.With ∷ [])
unfolding lexed front_at mark_at run_from word_of
starts_always rest = refl

null_lexed : Lexes (codes " is null") (token.Is ∷ token.Null ∷ [])
unfolding lexed front_at run_from word_of
null_lexed end = refl
null_lexed (blank bs) = refl
null_lexed (close bs) = refl
null_lexed (comma bs) = refl
null_lexed (dot bs) = refl

not_null_lexed : Lexes (codes " is not null") (token.Is ∷ token.Not ∷ token.Null ∷ [])
unfolding lexed front_at run_from word_of
not_null_lexed end = refl
not_null_lexed (blank bs) = refl
not_null_lexed (close bs) = refl
not_null_lexed (comma bs) = refl
not_null_lexed (dot bs) = refl

close_always : LexesAlways (codes ")") (token.Close ∷ [])
unfolding lexed front_at mark_at
close_always rest = refl

close_stop : IsStop (codes ")")
close_stop s = (close (after s), refl)

closed_lexed : (text : List ℕ) (ts : List Token) → Lexes text ts → Lexes (text ++ codes ")") (ts ++ token.Close ∷ [])
closed_lexed text ts h = lexes_more text (codes ")") ts (token.Close ∷ []) h close_stop (lexes_always (codes ")")
    (token.Close ∷ []) close_always)

question_lexed : (q : Question) → AllRead (question_tokens q) → Lexes (question_text q) (question_tokens q)
question_lexed (question.Compare s l) h = lexes_behind (sign_text s) (literal_text l) (token.Sign s ∷ [])
    (literal_token l ∷ []) (sign_always s) (literal_lexed l h.1.0)
question_lexed (question.Among false c) h =
    lexes_behind (codes " in (") (choices_text c ++ codes ")") (token.In ∷ token.Open ∷ [])
    (choices_tokens c ++ token.Close ∷ []) in_always
    (closed_lexed (choices_text c) (choices_tokens c) (choices_lexed c (all_front (choices_tokens c) (token.Close ∷ [])
    h.1.1)))
question_lexed (question.Among true c) h =
    lexes_behind (codes " not in (") (choices_text c ++ codes ")") (token.Not ∷ token.In ∷ token.Open ∷ [])
    (choices_tokens c ++ token.Close ∷ []) not_in_always
    (closed_lexed (choices_text c) (choices_tokens c) (choices_lexed c (all_front (choices_tokens c) (token.Close ∷ [])
    h.1.1.1)))
question_lexed question.Missing h = null_lexed
question_lexed question.Present h = not_null_lexed
question_lexed (question.Begins l) h = lexes_behind (codes " starts with ") (literal_text l) (token.Starts ∷ token.With
    ∷ []) (literal_token l ∷ []) starts_always (literal_lexed l h.1.1.0)

sign_stop : (s : Comparison) (bs : List ℕ) → IsStop (sign_text s ++ bs)
sign_stop sign.Less bs = stop_blank (codes "< " ++ bs)
sign_stop sign.AtMost bs = stop_blank (codes "<= " ++ bs)
sign_stop sign.Greater bs = stop_blank (codes "> " ++ bs)
sign_stop sign.AtLeast bs = stop_blank (codes ">= " ++ bs)
sign_stop sign.Equal bs = stop_blank (codes "= " ++ bs)
sign_stop sign.NotEqual bs = stop_blank (codes "!= " ++ bs)

question_stop : (q : Question) → IsStop (question_text q)
question_stop (question.Compare s l) = sign_stop s (literal_text l)
question_stop (question.Among false c) = stop_blank (codes "in (" ++ (choices_text c ++ codes ")"))
question_stop (question.Among true c) = stop_blank (codes "not in (" ++ (choices_text c ++ codes ")"))
question_stop question.Missing = stop_blank (codes "is null")
question_stop question.Present = stop_blank (codes "is not null")
question_stop (question.Begins l) = stop_blank (codes "starts with " ++ literal_text l)

predicate_lexed : (l : Predicate) → AllRead (predicate_tokens l) → Lexes (predicate_text l) (predicate_tokens l)
predicate_lexed l h =
    lexes_more (column_text l.column) (question_text l.question) (column_tokens l.column) (question_tokens l.question)
    (column_lexed l.column (all_front (column_tokens l.column) (question_tokens l.question) h))
    (question_stop l.question)
    (question_lexed l.question (all_back (column_tokens l.column) (question_tokens l.question) h))

-- ---- filters

abbrev grouped : Bool → Written → Written
grouped true w = group w
grouped false w = w

-- a filter with the parentheses that it needs
abbrev pub written : Tree Predicate → Written
written (always b) = truth b
written (single l) = predicate l
written (all_of s t) = both (grouped (is_either s) (written s)) (grouped (is_operator t) (written t))
written (one_of s t) = either (written s) (grouped (is_either t) (written t))

-- each predicate is one of some text
abbrev pub PredicatesRead : Tree Predicate → Type 0
PredicatesRead (always b) = Unit {0}
PredicatesRead (single l) = AllRead (predicate_tokens l)
PredicatesRead (all_of s t) = PredicatesRead s × PredicatesRead t
PredicatesRead (one_of s t) = PredicatesRead s × PredicatesRead t

pub predicates_read : (w : Written) → AllRead (tokens_in w) → PredicatesRead (bare w)
predicates_read (truth b) h = tt
predicates_read (predicate l) h = h
predicates_read (group w) h = predicates_read w (all_front (tokens_in w) (token.Close ∷ []) h.1)
predicates_read (both v w) h = (
  predicates_read v (all_front (tokens_in v) (token.And ∷ tokens_in w) h),
  predicates_read w
      (all_back (tokens_in v) (token.And ∷ tokens_in w) h).1,
)
predicates_read (either v w) h = (
  predicates_read v (all_front (tokens_in v) (token.Or ∷ tokens_in w) h),
  predicates_read w
      (all_back (tokens_in v) (token.Or ∷ tokens_in w) h).1,
)

and_always : LexesAlways (codes " and ") (token.And ∷ [])
unfolding lexed front_at run_from word_of
and_always rest = refl

or_always : LexesAlways (codes " or ") (token.Or ∷ [])
unfolding lexed front_at run_from word_of
or_always rest = refl

open_always : LexesAlways (codes "(") (token.Open ∷ [])
unfolding lexed front_at mark_at
open_always rest = refl

enclosed_lexed : (b : Bool) (text : List ℕ) (w : Written) → Lexes text (tokens_in w)
    → Lexes (enclosed b text) (tokens_in (grouped b w))
enclosed_lexed true text w h = lexes_behind (codes "(") (text ++ codes ")") (token.Open ∷ [])
    (tokens_in w ++ token.Close ∷ []) open_always (closed_lexed text (tokens_in w) h)
enclosed_lexed false text w h = h

shown_lexed : (f : Tree Predicate) → PredicatesRead f → Lexes (shown f) (tokens_in (written f))
shown_lexed (always b) h = truth_lexed b
shown_lexed (single l) h = predicate_lexed l h
shown_lexed (all_of s t) h =
    let v = grouped (is_either s) (written s) in
    let w = grouped (is_operator t) (written t) in
    lexes_more (enclosed (is_either s) (shown s)) (codes " and " ++ enclosed (is_operator t) (shown t)) (tokens_in v)
    (token.And ∷ tokens_in w)
    (enclosed_lexed (is_either s) (shown s) (written s) (shown_lexed s h.0))
    (stop_blank (codes "and " ++ enclosed (is_operator t) (shown t)))
    (lexes_behind (codes " and ") (enclosed (is_operator t) (shown t)) (token.And ∷ []) (tokens_in w) and_always
    (enclosed_lexed (is_operator t) (shown t) (written t) (shown_lexed t h.1)))
shown_lexed (one_of s t) h =
    let w = grouped (is_either t) (written t) in
    lexes_more (shown s) (codes " or " ++ enclosed (is_either t) (shown t)) (tokens_in (written s))
    (token.Or ∷ tokens_in w)
    (shown_lexed s h.0) (stop_blank (codes "or " ++ enclosed (is_either t) (shown t)))
    (lexes_behind (codes " or ") (enclosed (is_either t) (shown t)) (token.Or ∷ []) (tokens_in w) or_always
    (enclosed_lexed (is_either t) (shown t) (written t) (shown_lexed t h.1)))

pub shown_words : (f : Tree Predicate) → PredicatesRead f → words (tokens_of (shown f)) ≡ tokens_in (written f)
unfolding lexed
shown_words f h =
    let whole : lexed 0 (shown f) ≡ tokens_in (written f) = rw (
      append-nil (shown f),
      append-nil
          (tokens_in (written f)),
    ) at (shown_lexed f h end) in
    words_lexed 0 0 (shown f) ∙ whole

-- ---- the grammar

conj_stands : (f : Tree Predicate) → Stands filter (written f) → Stands conj (grouped (is_either f) (written f))
conj_stands (always b) h = tt
conj_stands (single l) h = tt
conj_stands (all_of s t) h = h
conj_stands (one_of s t) h = h

unit_stands : (f : Tree Predicate) → Stands filter (written f) → Stands unit (grouped (is_operator f) (written f))
unit_stands (always b) h = tt
unit_stands (single l) h = tt
unit_stands (all_of s t) h = h
unit_stands (one_of s t) h = h

pub stands : (f : Tree Predicate) → Stands filter (written f)
stands (always b) = tt
stands (single l) = tt
stands (all_of s t) = (conj_stands s (stands s), unit_stands t (stands t))
stands (one_of s t) = (stands s, conj_stands t (stands t))

bare_grouped : (b : Bool) (w : Written) → bare (grouped b w) ≡ bare w
bare_grouped true w = refl
bare_grouped false w = refl

pub bare_written : (f : Tree Predicate) → bare (written f) ≡ f
bare_written (always b) = refl
bare_written (single l) = refl
bare_written (all_of s t) = rw (
  bare_grouped (is_either s) (written s),
  bare_grouped (is_operator t) (written t),
  bare_written s,
  bare_written t,
) refl
bare_written (one_of s t) = rw (bare_grouped (is_either t) (written t), bare_written s, bare_written t) refl

-- ---- the limits

predicates_grouped : (b : Bool) (w : Written) → predicates_in (grouped b w) ≡ predicates_in w
predicates_grouped true w = refl
predicates_grouped false w = refl

same_predicates : (w : Written) → predicates_in (written (bare w)) ≡ predicates_in w
same_predicates (truth b) = refl
same_predicates (predicate l) = refl
same_predicates (group w) = same_predicates w
same_predicates (both v w) =
    rw (
      predicates_grouped (is_either (bare v)) (written (bare v)),
      predicates_grouped (is_operator (bare w))
          (written (bare w)),
      same_predicates v,
      same_predicates w,
    ) refl
same_predicates (either v w) = rw
    (predicates_grouped (is_either (bare w)) (written (bare w)), same_predicates v, same_predicates w)
    refl

-- whether a filter needs parentheses there
abbrev needs : Level → Tree Predicate → Bool
needs unit f = is_operator f
needs conj f = is_either f
needs filter f = false

shallow_grouped : (b : Bool) (deep most : ℕ) (w : Written) → 0 < deep → IsShallow (deep - 1) most w
    → IsShallow deep most (grouped b w)
shallow_grouped true deep most w some h = (some, h)
shallow_grouped false deep most w some h = shallow_more w (deep - 1) deep most most (omega arith) (omega arith) h

as_shallow : (l : Level) (deep most : ℕ) (w : Written) → Stands l w → IsShallow deep most w
    → IsShallow deep most (grouped (needs l (bare w)) (written (bare w)))
as_shallow unit deep most (truth b) s h = tt
as_shallow conj deep most (truth b) s h = tt
as_shallow filter deep most (truth b) s h = tt
as_shallow unit deep most (predicate x) s h = h
as_shallow conj deep most (predicate x) s h = h
as_shallow filter deep most (predicate x) s h = h
as_shallow l deep most (group w) s h = shallow_grouped (needs l (bare w)) deep most (written (bare w)) h.0
    (as_shallow filter (deep - 1) most w s h.1)
as_shallow unit deep most (both v w) s h = absurd s
as_shallow conj deep most (both v w) s h = (as_shallow conj deep most v s.0 h.0, as_shallow unit deep most w s.1 h.1)
as_shallow filter deep most (both v w) s h = (as_shallow conj deep most v s.0 h.0, as_shallow unit deep most w s.1 h.1)
as_shallow unit deep most (either v w) s h = absurd s
as_shallow conj deep most (either v w) s h = absurd s
as_shallow filter deep most (either v w) s h = (
  as_shallow filter deep most v s.0 h.0,
  as_shallow conj deep most w s.1
      h.1,
)

pub within : (m : Limits) (w : Written) → Stands filter w → IsWithin m w → IsWithin m (written (bare w))
within m w s h = record {
  few = rw (same_predicates w) h.few;
  shallow = as_shallow filter m.groups m.literals w s h.shallow;
}

-- ---- the law

says : (m : Limits) (n : ℕ) (w : Written) → Stands filter w → IsWithin m w → AllRead (tokens_in w)
    → Reads m n (tokens_of (shown (bare w))) (Ok (bare w))
says m n w s h read = (
  written (bare w),
  (
    record {
      stands = stands (bare w);
      spelled = shown_words (bare w) (predicates_read w read);
    },
    within m w s h,
    sym (bare_written (bare w)),
  ),
)

pub read_tokens : (text : List ℕ) (w : Written) → words (tokens_of text) ≡ tokens_in w → AllRead (tokens_in w)
read_tokens text w e = subst AllRead (sym (words_lexed 0 0 text) ∙ e) (lexed_read 0 text)

reads_bare : (text : List ℕ) (f : Tree Predicate) (w : Written) → Says (words (tokens_of text)) w → IsWithin limits w
    → f ≡ bare w → Reads limits (length (shown f)) (tokens_of (shown f)) (Ok f)
reads_bare text f w h k e = subst (λ (g : Tree Predicate). Reads limits (length (shown g)) (tokens_of (shown g)) (Ok g))
    (sym e) (says limits (length (shown (bare w))) w h.stands k (read_tokens text w h.spelled))

reads_shown : (text : List ℕ) (f : Tree Predicate) → Reads limits (length text) (tokens_of text) (Ok f)
    → Reads limits (length (shown f)) (tokens_of (shown f)) (Ok f)
reads_shown text f r = reads_bare text f r.0 r.1.0 r.1.1 r.1.2

pub shown_read : (text : List ℕ) (f : Tree Predicate) → filter_of text ≡ Ok f → filter_of (shown f) ≡ Ok f
shown_read text f e =
    one_reading limits (length (shown f)) (tokens_of (shown f)) (filter_of (shown f)) (Ok f) (text_reads (shown f))
    (reads_shown text f (rw e at (text_reads text)))
