-- The text of a relaxed filter is read as that filter.
use Rattle.std.proofs.Common.{◌≡◌, ℕ, ◌+◌, ◌-◌, ◌≤◌, Bool, true, false, List, [], ◌∷◌, length, map, Ok, refl, sym, ap}
use Rattle.std.proofs.Common.{subst, ◌∙◌, arith}
use Rattle.std.specs.Prelude.{if◌then◌else◌}
use Rattle.ice_meta.specs.declared.schema.Schema.{Schema}
use Rattle.ice_filter.specs.declared.predicate.Predicate.{Predicate}
use Rattle.ice_filter.specs.declared.parts.Part.{Part}
use Rattle.ice_filter.specs.declared.parts.Part.TheVariants as part
use Rattle.ice_filter.specs.Grammar.{
  Written,
  truth,
  predicate,
  group,
  both,
  either,
  bare,
  Level,
  unit,
  conj,
  filter,
  Stands,
}
use Rattle.ice_filter.specs.Grammar.{Says, Reads, predicates_in, IsShallow, IsWithin, Limits, limits, words}
use Rattle.ice_filter.specs.Lexing.{tokens_of}
use Rattle.ice_filter.specs.Parsing.{filter_of, mapped, parsed}
use Rattle.ice_filter.specs.Texts.{shown}
use Rattle.ice_filter.specs.Trees.{Tree, truth as always, predicate as single, both as all_of, either as one_of}
use Rattle.ice_filter.specs.Trees.{read_part, read_parts, rest, top, tree_of}
use Rattle.ice_filter.proofs.Printed.{PredicatesRead, bare_written, predicates_read, read_tokens, shown_words, stands}
use Rattle.ice_filter.proofs.Printed.{within, written}
use Rattle.ice_filter.proofs.Shapes.{text_reads}
use Rattle.ice_filter.proofs.Unique.{one_reading}
use Rattle.ice_filter_relaxed.specs.Relaxing.{is_unasked, relaxed, relaxed_part}

-- ---- the relaxed tree

abbrev relaxed_tree : Schema → Tree Predicate → Tree Predicate
relaxed_tree schema (always b) = always b
relaxed_tree schema (single l) = if is_unasked schema l then always true else single l
relaxed_tree schema (all_of s t) = all_of (relaxed_tree schema s) (relaxed_tree schema t)
relaxed_tree schema (one_of s t) = one_of (relaxed_tree schema s) (relaxed_tree schema t)

relaxed_top : (schema : Schema) (ts : List (Tree Predicate))
    → top (map (relaxed_tree schema) ts) ≡ relaxed_tree schema (top ts)
relaxed_top schema [] = refl
relaxed_top schema (t ∷ ts) = refl

relaxed_rest : (schema : Schema) (ts : List (Tree Predicate))
    → rest (map (relaxed_tree schema) ts) ≡ map (relaxed_tree schema) (rest ts)
relaxed_rest schema [] = refl
relaxed_rest schema (t ∷ ts) = refl

read_one : (b : Bool) (l : Predicate) (ts : List (Tree Predicate))
    → read_part ts (if b then part.True else part.Predicate l) ≡ (if b then always true else single l) ∷ ts
read_one true l ts = refl
read_one false l ts = refl

read_relaxed : (schema : Schema) (ts : List (Tree Predicate)) (p : Part Predicate)
    → read_part (map (relaxed_tree schema) ts) (relaxed_part schema p) ≡ map (relaxed_tree schema) (read_part ts p)
read_relaxed schema ts part.True = refl
read_relaxed schema ts part.False = refl
read_relaxed schema ts (part.Predicate l) = read_one (is_unasked schema l) l (map (relaxed_tree schema) ts)
read_relaxed schema ts part.And = rw (
  relaxed_rest schema ts,
  relaxed_rest schema (rest ts),
  relaxed_top schema ts,
  relaxed_top schema (rest ts),
) refl
read_relaxed schema ts part.Or = rw (
  relaxed_rest schema ts,
  relaxed_rest schema (rest ts),
  relaxed_top schema ts,
  relaxed_top schema (rest ts),
) refl

read_all : (schema : Schema) (ts : List (Tree Predicate)) (ps : List (Part Predicate))
    → read_parts (map (relaxed_tree schema) ts) (relaxed schema ps) ≡ map (relaxed_tree schema) (read_parts ts ps)
read_all schema ts [] = refl
read_all schema ts (p ∷ ps) =
    ap (λ us. read_parts us (relaxed schema ps)) (read_relaxed schema ts p) ∙ read_all schema (read_part ts p) ps

tree_relaxed : (schema : Schema) (ps : List (Part Predicate))
    → tree_of (relaxed schema ps) ≡ relaxed_tree schema (tree_of ps)
tree_relaxed schema ps = ap top (read_all schema [] ps) ∙ relaxed_top schema (read_parts [] ps)

-- ---- the relaxed filter as it is written

abbrev or_truth : Bool → Predicate → Written
or_truth true l = truth true
or_truth false l = predicate l

abbrev relaxed_words : Schema → Written → Written
relaxed_words schema (truth b) = truth b
relaxed_words schema (predicate l) = or_truth (is_unasked schema l) l
relaxed_words schema (group w) = group (relaxed_words schema w)
relaxed_words schema (both v w) = both (relaxed_words schema v) (relaxed_words schema w)
relaxed_words schema (either v w) = either (relaxed_words schema v) (relaxed_words schema w)

bare_one : (b : Bool) (l : Predicate) → bare (or_truth b l) ≡ (if b then always true else single l)
bare_one true l = refl
bare_one false l = refl

bare_relaxed : (schema : Schema) (w : Written) → bare (relaxed_words schema w) ≡ relaxed_tree schema (bare w)
bare_relaxed schema (truth b) = refl
bare_relaxed schema (predicate l) = bare_one (is_unasked schema l) l
bare_relaxed schema (group w) = bare_relaxed schema w
bare_relaxed schema (both v w) = rw (bare_relaxed schema v, bare_relaxed schema w) refl
bare_relaxed schema (either v w) = rw (bare_relaxed schema v, bare_relaxed schema w) refl

one_stands : (level : Level) (b : Bool) (l : Predicate) → Stands level (or_truth b l)
one_stands level true l = tt
one_stands level false l = tt

relaxed_stands : (schema : Schema) (level : Level) (w : Written) → Stands level w
    → Stands level (relaxed_words schema w)
relaxed_stands schema level (truth b) h = tt
relaxed_stands schema level (predicate l) h = one_stands level (is_unasked schema l) l
relaxed_stands schema level (group w) h = relaxed_stands schema filter w h
relaxed_stands schema unit (both v w) h = absurd h
relaxed_stands schema conj (both v w) h = (relaxed_stands schema conj v h.0, relaxed_stands schema unit w h.1)
relaxed_stands schema filter (both v w) h = (relaxed_stands schema conj v h.0, relaxed_stands schema unit w h.1)
relaxed_stands schema unit (either v w) h = absurd h
relaxed_stands schema conj (either v w) h = absurd h
relaxed_stands schema filter (either v w) h = (relaxed_stands schema filter v h.0, relaxed_stands schema conj w h.1)

-- ---- the limits

one_fewer : (b : Bool) (l : Predicate) → predicates_in (or_truth b l) ≤ 1
one_fewer true l = omega arith
one_fewer false l = omega arith

fewer : (schema : Schema) (w : Written) → predicates_in (relaxed_words schema w) ≤ predicates_in w
fewer schema (truth b) = omega arith
fewer schema (predicate l) = one_fewer (is_unasked schema l) l
fewer schema (group w) = fewer schema w
fewer schema (both v w) = omega (arith, fewer schema v, fewer schema w)
fewer schema (either v w) = omega (arith, fewer schema v, fewer schema w)

one_shallow : (deep most : ℕ) (b : Bool) (l : Predicate) → IsShallow deep most (predicate l)
    → IsShallow deep most (or_truth b l)
one_shallow deep most true l h = tt
one_shallow deep most false l h = h

shallow : (schema : Schema) (deep most : ℕ) (w : Written) → IsShallow deep most w
    → IsShallow deep most (relaxed_words schema w)
shallow schema deep most (truth b) h = tt
shallow schema deep most (predicate l) h = one_shallow deep most (is_unasked schema l) l h
shallow schema deep most (group w) h = (h.0, shallow schema (deep - 1) most w h.1)
shallow schema deep most (both v w) h = (shallow schema deep most v h.0, shallow schema deep most w h.1)
shallow schema deep most (either v w) h = (shallow schema deep most v h.0, shallow schema deep most w h.1)

still_within : (schema : Schema) (m : Limits) (w : Written) → IsWithin m w → IsWithin m (relaxed_words schema w)
still_within schema m w h = record {
  few = omega (arith, fewer schema w, h.few);
  shallow = shallow schema m.groups m.literals w h.shallow;
}

-- ---- the text

one_read : (b : Bool) (l : Predicate) → PredicatesRead (single l)
    → PredicatesRead (if b then always true else single l)
one_read true l h = tt
one_read false l h = h

still_read : (schema : Schema) (t : Tree Predicate) → PredicatesRead t → PredicatesRead (relaxed_tree schema t)
still_read schema (always b) h = tt
still_read schema (single l) h = one_read (is_unasked schema l) l h
still_read schema (all_of s t) h = (still_read schema s h.0, still_read schema t h.1)
still_read schema (one_of s t) h = (still_read schema s h.0, still_read schema t h.1)

reads_bare : (w : Written) → Stands filter w → IsWithin limits w → PredicatesRead (bare w)
    → Reads limits (length (shown (bare w))) (tokens_of (shown (bare w))) (Ok (bare w))
reads_bare w s k read = (
  written (bare w),
  (
    record { stands = stands (bare w); spelled = shown_words (bare w) read },
    within limits w s k,
    sym (bare_written (bare w)),
  ),
)

relaxed_reads : (schema : Schema) (text : List ℕ) (w : Written) → Says (words (tokens_of text)) w → IsWithin limits w
    → Reads limits (length (shown (relaxed_tree schema (bare w)))) (tokens_of (shown (relaxed_tree schema (bare w))))
    (Ok (relaxed_tree schema (bare w)))
relaxed_reads schema text w h k =
    let read = still_read schema (bare w) (predicates_read w (read_tokens text w h.spelled)) in
    subst (λ (g : Tree Predicate). Reads limits (length (shown g)) (tokens_of (shown g)) (Ok g))
    (bare_relaxed schema w)
    (reads_bare (relaxed_words schema w) (relaxed_stands schema filter w h.stands) (still_within schema limits w k)
    (subst PredicatesRead (sym (bare_relaxed schema w)) read))

reads_tree : (schema : Schema) (text : List ℕ) (f : Tree Predicate)
    → Reads limits (length text) (tokens_of text) (Ok f)
    → Reads limits (length (shown (relaxed_tree schema f))) (tokens_of (shown (relaxed_tree schema f)))
    (Ok (relaxed_tree schema f))
reads_tree schema text f r =
    subst (λ (g : Tree Predicate). Reads limits (length (shown (relaxed_tree schema g)))
    (tokens_of (shown (relaxed_tree schema g))) (Ok (relaxed_tree schema g)))
    (sym r.1.2) (relaxed_reads schema text r.0 r.1.0 r.1.1)

tree_read : (schema : Schema) (text : List ℕ) (f : Tree Predicate) → filter_of text ≡ Ok f
    → filter_of (shown (relaxed_tree schema f)) ≡ Ok (relaxed_tree schema f)
tree_read schema text f e =
    let g = relaxed_tree schema f in
    one_reading limits (length (shown g)) (tokens_of (shown g)) (filter_of (shown g)) (Ok g) (text_reads (shown g))
    (reads_tree schema text f (rw e at (text_reads text)))

pub read_back : (schema : Schema) (text : List ℕ) (parts : List (Part Predicate)) → parsed text ≡ Ok parts
    → filter_of (shown (tree_of (relaxed schema parts))) ≡ Ok (tree_of (relaxed schema parts))
read_back schema text parts e =
    subst (λ (g : Tree Predicate). filter_of (shown g) ≡ Ok g) (sym (tree_relaxed schema parts))
    (tree_read schema text (tree_of parts) (ap (mapped tree_of) e))
