-- Filters over other predicates, and filters read from their parts.
use Rattle.std.proofs.Common.{◌≡◌, ℕ, Bool, true, false, List, [], ◌∷◌, ◌++◌, Option, None, Some, refl, ap, sym, ◌∙◌}
use Rattle.std.specs.Option.{option_and_then}
use Rattle.ice_filter.specs.declared.parts.Part.{Part}
use Rattle.ice_filter.specs.declared.parts.Part.TheVariants.{True, False, Predicate, And, Or}
use Rattle.ice_filter.specs.Trees.{Tree, truth, predicate, both, either, meaning, parts_of, read_part, read_parts, top}
use Rattle.ice_filter.specs.Trees.{
  tree_of,
  map_part,
  map_predicates,
  operands_after_part,
  operands_after,
  is_one_filter,
}
use Rattle.ice_filter.specs.Trees.{is_filter}
use Rattle.ice_filter.specs.Truths.{judge_part, judge_parts, top as top_truth}
use Rattle.ice_filter.proofs.Stacks.{judged_tree}

-- ---- other predicates
same_operands : {L M : Type 0} (f : L → M) (n : ℕ) (p : Part L)
    → operands_after_part n (map_part f p) ≡ operands_after_part n p
same_operands f n True = refl
same_operands f n False = refl
same_operands f n (Predicate l) = refl
same_operands f n And = refl
same_operands f n Or = refl

after_each : (o : Option ℕ) (g h : ℕ → Option ℕ) → ((m : ℕ) → g m ≡ h m) → option_and_then g o ≡ option_and_then h o
after_each None g h e = refl
after_each (Some m) g h e = e m

pub mapped_operands : {L M : Type 0} (f : L → M) (n : ℕ) (ps : List (Part L))
    → operands_after n (map_predicates f ps) ≡ operands_after n ps
mapped_operands f n [] = refl
mapped_operands f n (p ∷ ps) =
    ap (λ o. option_and_then (λ m. operands_after m (map_predicates f ps)) o) (same_operands f n p)
    ∙ after_each (operands_after_part n p) (λ m. operands_after m (map_predicates f ps)) (λ m. operands_after m ps)
    (λ m. mapped_operands f m ps)

pub mapped_filter : {L M : Type 0} (f : L → M) (ps : List (Part L)) → is_filter (map_predicates f ps) ≡ is_filter ps
mapped_filter f ps = ap is_one_filter (mapped_operands f 0 ps)

same_truths : {L M : Type 0} (f : L → M) (met : M → Bool) (bs : List Bool) (p : Part L)
    → judge_part met bs (map_part f p) ≡ judge_part (λ l. met (f l)) bs p
same_truths f met bs True = refl
same_truths f met bs False = refl
same_truths f met bs (Predicate l) = refl
same_truths f met bs And = refl
same_truths f met bs Or = refl

mapped_truths : {L M : Type 0} (f : L → M) (met : M → Bool) (bs : List Bool) (ps : List (Part L))
    → judge_parts met bs (map_predicates f ps) ≡ judge_parts (λ l. met (f l)) bs ps
mapped_truths f met bs [] = refl
mapped_truths f met bs (p ∷ ps) =
    ap (λ cs. judge_parts met cs (map_predicates f ps)) (same_truths f met bs p) ∙ mapped_truths f met
    (judge_part (λ l. met (f l)) bs p) ps

pub mapped_meaning : {L M : Type 0} (f : L → M) (met : M → Bool) (ps : List (Part L))
    → meaning met (tree_of (map_predicates f ps)) ≡ meaning (λ l. met (f l)) (tree_of ps)
mapped_meaning f met ps =
    sym (judged_tree met (map_predicates f ps)) ∙ ap top_truth (mapped_truths f met [] ps)
    ∙ judged_tree (λ l. met (f l)) ps

-- ---- reading
pub read_more : {L : Type 0} (ts : List (Tree L)) (ps qs : List (Part L))
    → read_parts ts (ps ++ qs) ≡ read_parts (read_parts ts ps) qs
read_more ts [] qs = refl
read_more ts (p ∷ ps) qs = read_more (read_part ts p) ps qs

-- the parts of a filter put it on what was read before
pub read_tree : {L : Type 0} (ts : List (Tree L)) (t : Tree L) → read_parts ts (parts_of t) ≡ t ∷ ts
read_tree ts (truth true) = refl
read_tree ts (truth false) = refl
read_tree ts (predicate l) = refl
read_tree ts (both s t) =
    read_more ts (parts_of s) (parts_of t ++ And ∷ []) ∙ ap (λ us. read_parts us (parts_of t ++ And ∷ []))
    (read_tree ts s)
    ∙ read_more (s ∷ ts) (parts_of t) (And ∷ []) ∙ ap (λ us. read_parts us (And ∷ [])) (read_tree (s ∷ ts) t)
read_tree ts (either s t) =
    read_more ts (parts_of s) (parts_of t ++ Or ∷ []) ∙ ap (λ us. read_parts us (parts_of t ++ Or ∷ []))
    (read_tree ts s)
    ∙ read_more (s ∷ ts) (parts_of t) (Or ∷ []) ∙ ap (λ us. read_parts us (Or ∷ [])) (read_tree (s ∷ ts) t)

pub parts_read : {L : Type 0} (t : Tree L) → tree_of (parts_of t) ≡ t
parts_read t = ap top (read_tree [] t)
