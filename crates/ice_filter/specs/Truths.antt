-- A filter's parts read with truth values in place of filters.
use Rattle.std.specs.Prelude.{ℕ, zero, suc, Bool, true, false, ◌&&◌, ◌||◌, List, [], ◌∷◌, get_or}
use Rattle.ice_filter.specs.declared.parts.Part.{Part}
use Rattle.ice_filter.specs.declared.parts.Part.TheVariants.{True, False, Predicate, And, Or}

-- the first n values, the last one first
abbrev pub last_of : ℕ → List Bool → List Bool
last_of zero held = []
last_of (suc n) held = get_or held n false ∷ last_of n held

abbrev pub top : List Bool → Bool
top [] = true
top (b ∷ bs) = b

abbrev pub rest : List Bool → List Bool
rest [] = []
rest (b ∷ bs) = bs

-- the truth values that wait for an operator after one more part, the last one first
abbrev pub judge_part : {L : Type 0} → (L → Bool) → List Bool → Part L → List Bool
judge_part met bs True = true ∷ bs
judge_part met bs False = false ∷ bs
judge_part met bs (Predicate l) = met l ∷ bs
judge_part met bs And = (top (rest bs) && top bs) ∷ rest (rest bs)
judge_part met bs Or = (top (rest bs) || top bs) ∷ rest (rest bs)

abbrev pub judge_parts : {L : Type 0} → (L → Bool) → List Bool → List (Part L) → List Bool
judge_parts met bs [] = bs
judge_parts met bs (p ∷ ps) = judge_parts met (judge_part met bs p) ps
