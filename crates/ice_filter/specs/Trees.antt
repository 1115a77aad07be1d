-- Filters over predicates of some type, and what they mean once each predicate is true or false.
use Rattle.std.specs.Prelude.{ℕ, suc, ◌+◌, Bool, true, false, ◌&&◌, ◌||◌, List, [], ◌∷◌, ◌++◌, Option, None, Some}
use Rattle.std.specs.Prelude.{if◌then◌else◌, nat_lt, map}
use Rattle.std.specs.Option.{option_and_then}
use Rattle.ice_filter.specs.declared.parts.Part.{Part}
use Rattle.ice_filter.specs.declared.parts.Part.TheVariants.{True, False, Predicate, And, Or}

-- A filter. `and` and `or` have the left operand first.
pub data Tree (L : Type 0) : Type 0 where
  truth : Bool → Tree L
  predicate : L → Tree L
  both : Tree L → Tree L → Tree L
  either : Tree L → Tree L → Tree L

-- whether the filter is met, where met says it of each predicate
abbrev pub meaning : {L : Type 0} → (L → Bool) → Tree L → Bool
meaning met (truth b) = b
meaning met (predicate l) = met l
meaning met (both s t) = meaning met s && meaning met t
meaning met (either s t) = meaning met s || meaning met t

-- the parts of a filter: operands stand before their operator
abbrev pub truth_part : {L : Type 0} → Bool → Part L
truth_part true = True
truth_part false = False

abbrev pub parts_of : {L : Type 0} → Tree L → List (Part L)
parts_of (truth b) = truth_part b ∷ []
parts_of (predicate l) = Predicate l ∷ []
parts_of (both s t) = parts_of s ++ (parts_of t ++ And ∷ [])
parts_of (either s t) = parts_of s ++ (parts_of t ++ Or ∷ [])

-- the filter that was read last; of none at all, the one that is always met
abbrev pub top : {L : Type 0} → List (Tree L) → Tree L
top [] = truth true
top (t ∷ ts) = t

abbrev pub rest : {L : Type 0} → List (Tree L) → List (Tree L)
rest [] = []
rest (t ∷ ts) = ts

-- the filters that wait for an operator after one more part, the last one first
abbrev pub read_part : {L : Type 0} → List (Tree L) → Part L → List (Tree L)
read_part ts True = truth true ∷ ts
read_part ts False = truth false ∷ ts
read_part ts (Predicate l) = predicate l ∷ ts
read_part ts And = both (top (rest ts)) (top ts) ∷ rest (rest ts)
read_part ts Or = either (top (rest ts)) (top ts) ∷ rest (rest ts)

abbrev pub read_parts : {L : Type 0} → List (Tree L) → List (Part L) → List (Tree L)
read_parts ts [] = ts
read_parts ts (p ∷ ps) = read_parts (read_part ts p) ps

-- the filter whose parts these are
abbrev pub tree_of : {L : Type 0} → List (Part L) → Tree L
tree_of parts = top (read_parts [] parts)

-- the same filter over other predicates
abbrev pub map_part : {L M : Type 0} → (L → M) → Part L → Part M
map_part f True = True
map_part f False = False
map_part f (Predicate l) = Predicate (f l)
map_part f And = And
map_part f Or = Or

abbrev pub map_predicates : {L M : Type 0} → (L → M) → List (Part L) → List (Part M)
map_predicates f parts = map (map_part f) parts

-- A filter with at most 32 open parentheses has at most two operands in each of the 33 that wait for the next one, and
-- the next one.
abbrev pub most_operands : ℕ
most_operands = 67

-- how many operands wait after a part, where n did; none where an operator lacks one, or too many would wait
abbrev pub operands_after_operand : ℕ → Option ℕ
operands_after_operand n = if nat_lt n most_operands then Some (n + 1) else None

abbrev pub operands_after_operator : ℕ → Option ℕ
operands_after_operator (suc (suc n)) = Some (suc n)
operands_after_operator _ = None

abbrev pub operands_after_part : {L : Type 0} → ℕ → Part L → Option ℕ
operands_after_part n True = operands_after_operand n
operands_after_part n False = operands_after_operand n
operands_after_part n (Predicate l) = operands_after_operand n
operands_after_part n And = operands_after_operator n
operands_after_part n Or = operands_after_operator n

-- how many operands wait after the parts, where n did
abbrev pub operands_after : {L : Type 0} → ℕ → List (Part L) → Option ℕ
operands_after n [] = Some n
operands_after n (p ∷ ps) = option_and_then (λ m. operands_after m ps) (operands_after_part n p)

-- one operand is left, or there was none at all
abbrev pub is_one_filter : Option ℕ → Bool
is_one_filter (Some n) = nat_lt n 2
is_one_filter None = false

-- the parts are those of one filter, or none at all
abbrev pub is_filter : {L : Type 0} → List (Part L) → Bool
is_filter parts = is_one_filter (operands_after 0 parts)
