-- States that are joined as bytes, one after the other: they make a tree.
use Rattle.std.specs.Prelude.{◌≡◌, ℕ, List, [], ◌∷◌, ◌++◌, Option, None, Result, Ok, Err}
use Rattle.ice_state_envelopes.specs.declared.fault.EnvelopeFault.{EnvelopeFault}
use Rattle.ice_state_envelopes.specs.Envelopes.{Parts, parts_at}
use Rattle.ice_state_envelopes.specs.Joins.{body_at, or_else, joined}

-- the bytes of a state; the bytes that were made of two
pub data Tree : Type 0 where
  given : List ℕ → Tree
  made : Tree → Tree → List ℕ → Tree

abbrev pub bytes_of : Tree → List ℕ
bytes_of (given bytes) = bytes
bytes_of (made left right bytes) = bytes

-- the bytes that were made of two open as what both open as, joined
abbrev pub IsJoin : List ℕ → List ℕ → List ℕ → Type 0
IsJoin left right bytes = (p : Parts) × (q : Parts) × (parts_at left ≡ Ok p) × (parts_at right ≡ Ok q) ×
    (parts_at bytes ≡ joined p q)

abbrev pub IsMade : Tree → Type 0
IsMade (given bytes) = Unit {0}
IsMade (made left right bytes) = IsMade left × IsMade right × IsJoin (bytes_of left) (bytes_of right) bytes

-- what was given, from left to right
abbrev pub leaves : Tree → List (List ℕ)
leaves (given bytes) = bytes ∷ []
leaves (made left right bytes) = leaves left ++ leaves right

abbrev pub body_of : ℕ → Result Parts EnvelopeFault → Option (List ℕ)
body_of row (Ok p) = body_at row p.sections
body_of row (Err e) = None

-- the body of a row in the first of these states that has it
abbrev pub first_body : ℕ → List (List ℕ) → Option (List ℕ)
first_body row [] = None
first_body row (bytes ∷ others) = or_else (body_of row (parts_at bytes)) (first_body row others)
