-- The stack of truth values stands for the stack of filters.
use Rattle.std.proofs.Common.{◌≡◌, ℕ, zero, suc, ◌+◌, ◌<◌, ◌≤◌, Bool, false, List, [], ◌∷◌, length, map, set, refl, ap}
use Rattle.std.proofs.Common.{arith, ◌∙◌}
use Rattle.std.proofs.lemmas.List.{get_or-set_same, get_or-set_other}
use Rattle.ice_filter.specs.declared.parts.Part.{Part}
use Rattle.ice_filter.specs.declared.parts.Part.TheVariants.{True, False, Predicate, And, Or}
use Rattle.ice_filter.specs.Trees.{Tree, meaning, top, rest, read_part, read_parts, tree_of}
use Rattle.ice_filter.specs.Truths.{last_of, judge_part, judge_parts, top as top_truth, rest as rest_truths}

pub last_of_length : (n : ℕ) (held : List Bool) → length (last_of n held) ≡ n
last_of_length zero held = refl
last_of_length (suc n) held = ap suc (last_of_length n held)

-- what lies below a place doesn't change with it
pub last_of_set : (n k : ℕ) (held : List Bool) (b : Bool) → n ≤ k → last_of n (set held k b) ≡ last_of n held
last_of_set zero k held b h = refl
last_of_set (suc n) k held b h =
    let e = get_or-set_other held k n b false (λ s. absurd (omega arith)) in
    let f = last_of_set n k held b (omega arith) in
    cc

pub last_of_pushed : (n : ℕ) (held : List Bool) (b : Bool) → n < length held
    → last_of (n + 1) (set held n b) ≡ b ∷ last_of n held
last_of_pushed n held b h =
    let o : n + 1 ≡ suc n = omega arith in
    let e = get_or-set_same held n b false h in
    let f = last_of_set n n held b (omega arith) in
    rw o (cc)

map_top : {L : Type 0} (met : L → Bool) (ts : List (Tree L)) → top_truth (map (meaning met) ts) ≡ meaning met (top ts)
map_top met [] = refl
map_top met (t ∷ ts) = refl

map_rest : {L : Type 0} (met : L → Bool) (ts : List (Tree L))
    → rest_truths (map (meaning met) ts) ≡ map (meaning met) (rest ts)
map_rest met [] = refl
map_rest met (t ∷ ts) = refl

judged_part : {L : Type 0} (met : L → Bool) (ts : List (Tree L)) (p : Part L)
    → judge_part met (map (meaning met) ts) p ≡ map (meaning met) (read_part ts p)
judged_part met ts True = refl
judged_part met ts False = refl
judged_part met ts (Predicate l) = refl
judged_part met ts And = rw (map_rest met ts, map_rest met (rest ts), map_top met ts, map_top met (rest ts)) refl
judged_part met ts Or = rw (map_rest met ts, map_rest met (rest ts), map_top met ts, map_top met (rest ts)) refl

judged : {L : Type 0} (met : L → Bool) (ts : List (Tree L)) (ps : List (Part L))
    → judge_parts met (map (meaning met) ts) ps ≡ map (meaning met) (read_parts ts ps)
judged met ts [] = refl
judged met ts (p ∷ ps) = ap (λ bs. judge_parts met bs ps) (judged_part met ts p) ∙ judged met (read_part ts p) ps

-- the last truth value is the filter's
pub judged_tree : {L : Type 0} (met : L → Bool) (ps : List (Part L))
    → top_truth (judge_parts met [] ps) ≡ meaning met (tree_of ps)
judged_tree met ps = ap top_truth (judged met [] ps) ∙ map_top met (read_parts [] ps)
