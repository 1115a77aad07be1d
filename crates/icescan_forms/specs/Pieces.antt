-- The pieces that JSON is written in. No public contract cites these words.
use Rattle.std.specs.Prelude.{ℕ, suc, List, [], ◌∷◌, ◌++◌, nat_lt}
use Rattle.serde_json.specs.Written.{comma_if}

-- the texts of things, each but the first with a comma before it, where the first has this place
abbrev pub each_from : {X : Type 0} → (ℕ → X → List ℕ) → ℕ → List X → List ℕ
each_from text n [] = []
each_from text n (x ∷ xs) = comma_if (nat_lt 0 n) ++ (text n x ++ each_from text (suc n) xs)
