-- What the lexer gives.
use Rattle.std.specs.Prelude.{◌≡◌, ℕ, ◌<◌, ◌≤◌, List, [], ◌∷◌, Option, None, Some}
use Rattle.ice_filter.specs.Lexing.{Sized, front_at}

-- the token and its size stand in front of the bytes
abbrev pub IsFront : Sized → List ℕ → Type 0
IsFront x [] = ⊥
IsFront x (b ∷ bs) = x ≡ front_at b (b ∷ bs)

-- some bytes were read, and not more than there are
abbrev pub IsWithin : Option (List ℕ × ℕ) → ℕ → Type 0
IsWithin None most = Unit {0}
IsWithin (Some x) most = (0 < x.1) × (x.1 ≤ most)
