-- Ids of columns that rise.
use Rattle.std.specs.Prelude.{◌≡◌, ◌<◌, ◌-◌, ◌<ℤ◌, ℕ, ℤ, pos, List, length, get_or}

-- each id is above those before it
abbrev pub Rises : List ℤ → Type 0
Rises ids = (i j : ℕ) → i < j → j < length ids → get_or ids i (pos 0) <ℤ get_or ids j (pos 0)

-- the id of each pair is above those of the pairs before it
abbrev pub AreRising : {T : Type 0} → List (ℤ × T) → Type 0
AreRising {T} pairs = (i j : ℕ) (d : ℤ × T) → i < j → j < length pairs → (get_or pairs i d).0 <ℤ (get_or pairs j d).0

-- the pair at this place has this id
abbrev pub IsOf : {T : Type 0} → List (ℤ × T) → ℤ → ℕ → Type 0
IsOf {T} pairs id k = (k < length pairs) × ((d : ℤ × T) → (get_or pairs k d).0 ≡ id)

-- no pair has it
abbrev pub HasNone : {T : Type 0} → List (ℤ × T) → ℤ → Type 0
HasNone {T} pairs id = (k : ℕ) (d : ℤ × T) → k < length pairs → (get_or pairs k d).0 ≡ id → ⊥

-- the pair in front of the place, if there is one, has an id below this one
abbrev pub IsBehind : {T : Type 0} → List (ℤ × T) → ℕ → ℤ → Type 0
IsBehind {T} pairs place id = (d : ℤ × T) → 0 < place → (get_or pairs (place - 1) d).0 <ℤ id

-- the pair at the place, if there is one, has an id above this one
abbrev pub IsBefore : {T : Type 0} → List (ℤ × T) → ℕ → ℤ → Type 0
IsBefore {T} pairs place id = (d : ℤ × T) → place < length pairs → id <ℤ (get_or pairs place d).0
