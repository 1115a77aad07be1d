-- The ends of numbers among 64 bytes that are looked at together, as the bits of one number.
-- Avro 1.11.1 specification, 'Primitive Types': a number's last byte is below 128, and those before it are not.
use Rattle.std.specs.Prelude.{◌≡◌, ◌↔◌, ◌≤◌, ◌<◌, ◌+◌, ℕ, List, get_or}
use Rattle.std.specs.Int.{bit_at}

-- bit i stands for the byte that is i behind the place: whether it is among the 64 and ends a number
abbrev pub AreLast : List ℕ → ℕ → ℕ → Type 0
AreLast bytes at last = (i : ℕ) → (bit_at last i ≡ 1) ↔ ((i < 64) × (get_or bytes (at + i) 0 < 128))

-- one of the four bytes from the i-th on ends a number
abbrev pub EndsInFour : List ℕ → ℕ → ℕ → Type 0
EndsInFour bytes at i = (more : ℕ) × (more < 4) × (get_or bytes (at + (i + more)) 0 < 128)

-- the same of the bytes from the start up to some reach alone, within which no number has more than four bytes
abbrev pub AreEnds : List ℕ → ℕ → ℕ → ℕ → Type 0
AreEnds bytes at start ends = (reach : ℕ)
    × ((i : ℕ) → (bit_at ends i ≡ 1) ↔ ((start ≤ i) × (i < reach) × (i < 64) × (get_or bytes (at + i) 0 < 128)))
    × ((i : ℕ) → i < reach → i + 3 < 64 → EndsInFour bytes at i)
