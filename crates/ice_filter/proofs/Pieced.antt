-- The stack of texts stands for the stack of filters.
use Rattle.std.proofs.Common.{◌≡◌, ℕ, suc, ◌<◌, Bool, true, false, List, [], ◌∷◌, ◌++◌, length, get_or, map, refl, ap}
use Rattle.std.proofs.Common.{◌∙◌, ◌≢◌, ◌==◌, append_assoc, Result, Ok, Err, OnOk, arith}
use Rattle.std.proofs.lemmas.Bool.{eq-eqb, eqb-true}
use Rattle.ice_filter.specs.declared.predicate.Predicate.{Predicate}
use Rattle.ice_filter.specs.declared.parts.Part as parts
use Rattle.ice_filter.specs.declared.parts.Part.TheVariants.{True, False, And, Or}
use Rattle.ice_filter.specs.declared.parts.Part.TheVariants as part
use Rattle.ice_filter.specs.declared.text.Piece.{Piece}
use Rattle.ice_filter.specs.Pieces.{put, put_all, top, rest}
use Rattle.ice_filter.specs.Texts.{shown, is_either, is_operator, doubled}
use Rattle.ice_filter.specs.Trees.{Tree, read_part, read_parts, tree_of, top as top_tree, rest as rest_trees}

abbrev pub piece_of : Tree Predicate → Piece
piece_of t = record { text = shown t; either = is_either t; operator = is_operator t }

map_top : (ts : List (Tree Predicate)) → top (map piece_of ts) ≡ piece_of (top_tree ts)
map_top [] = refl
map_top (t ∷ ts) = refl

map_rest : (ts : List (Tree Predicate)) → rest (map piece_of ts) ≡ map piece_of (rest_trees ts)
map_rest [] = refl
map_rest (t ∷ ts) = refl

put_part : (ts : List (Tree Predicate)) (p : parts.Part Predicate)
    → put (map piece_of ts) p ≡ map piece_of (read_part ts p)
put_part ts True = refl
put_part ts False = refl
put_part ts (part.Predicate l) = refl
put_part ts And = rw (map_rest ts, map_rest (rest_trees ts), map_top ts, map_top (rest_trees ts)) refl
put_part ts Or = rw (map_rest ts, map_rest (rest_trees ts), map_top ts, map_top (rest_trees ts)) refl

put_parts : (ts : List (Tree Predicate)) (ps : List (parts.Part Predicate))
    → put_all (map piece_of ts) ps ≡ map piece_of (read_parts ts ps)
put_parts ts [] = refl
put_parts ts (p ∷ ps) = ap (λ qs. put_all qs ps) (put_part ts p) ∙ put_parts (read_part ts p) ps

-- the last text is the filter's
pub pieced : (ps : List (parts.Part Predicate)) → top (put_all [] ps) ≡ piece_of (tree_of ps)
pieced ps = ap top (put_parts [] ps) ∙ map_top (read_parts [] ps)

-- ---- quotes

pub is_false : (b : Bool) → (b ≡ true → ⊥) → b ≡ false
is_false true h = absurd (h refl)
is_false false h = refl

pub other : (b q : ℕ) → b ≢ q → (b == q) ≡ false
other b q h = is_false (b == q) (λ e. h (eqb-true b q e))

pub none_doubled : (q : ℕ) (bs : List ℕ) → ((i : ℕ) → i < length bs → get_or bs i 0 ≢ q) → doubled q bs ≡ bs
unfolding doubled
none_doubled q [] h = refl
none_doubled q (b ∷ bs) h = rw (other b q (h 0 (omega arith)))
    (ap (λ z. b ∷ z) (none_doubled q bs (λ i l. h (suc i) (omega arith))))

pub first_doubled : (q : ℕ) (xs ys : List ℕ) → ((i : ℕ) → i < length xs → get_or xs i 0 ≢ q)
    → doubled q (xs ++ q ∷ ys) ≡ xs ++ q ∷ q ∷ doubled q ys
unfolding doubled
first_doubled q [] ys h = rw (eq-eqb q q refl) refl
first_doubled q (x ∷ xs) ys h = rw (other x q (h 0 (omega arith)))
    (ap (λ z. x ∷ z) (first_doubled q xs ys (λ i l. h (suc i) (omega arith))))

-- one more quote, twice
pub quote_on : (q : ℕ) (front one two three start rest before behind text : List ℕ) → rest ≡ before ++ q ∷ behind
    → ((i : ℕ) → i < length before → get_or before i 0 ≢ q)
    → one ≡ front ++ before → two ≡ one ++ q ∷ [] → three ≡ two ++ q ∷ []
    → front ++ doubled q rest ≡ start ++ doubled q text → three ++ doubled q behind ≡ start ++ doubled q text
quote_on q front one two three start rest before behind text split none e f g so_far =
    let d : doubled q rest ≡ before ++ q ∷ q ∷ doubled q behind = ap (doubled q) split ∙ first_doubled q before behind
    none in
    let whole : front ++ (before ++ q ∷ q ∷ doubled q behind) ≡ start ++ doubled q text = rw d at so_far in
    rw (g, f, e) (simp append_assoc whole)

pub quotes_end : (q : ℕ) (front start rest text : List ℕ) → ((i : ℕ) → i < length rest → get_or rest i 0 ≢ q)
    → front ++ doubled q rest ≡ start ++ doubled q text → front ++ rest ≡ start ++ doubled q text
quotes_end q front start rest text none so_far = rw (none_doubled q rest none) at so_far

pub on_ok : {T E P Q : Type 0} (r : Result T E) → (P → Q) → OnOk r P → OnOk r Q
on_ok (Ok x) f h = f h
on_ok (Err e) f h = h
