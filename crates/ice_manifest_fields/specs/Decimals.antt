-- Decimal numbers in bytes: two's complement, the highest byte first (Avro 1.11.1 specification, "Decimal"; Apache
-- Iceberg table spec v2, "Appendix A: Avro"). A writer may put more bytes than the number needs.
use Rattle.std.specs.Prelude.{◌≡◌, ℕ, ◌+◌, ◌*◌, ◌^◌, ◌<◌, ◌==◌, ℤ, pos, ◌-ℤ◌, Bool, false, nat_lt, ◌&&◌, ◌||◌, not}
use Rattle.std.specs.Prelude.{List, [], ◌∷◌, length, if◌then◌else◌}
use Rattle.std.specs.List.{AllByRecursion}

-- the number of bytes without a sign
abbrev pub magnitude : List ℕ → ℕ
magnitude [] = 0
magnitude (b ∷ bs) = b * 256 ^ length bs + magnitude bs

-- a first byte from 80 on says that the number is negative
abbrev pub is_negative : List ℕ → Bool
is_negative [] = false
is_negative (b ∷ bs) = not (nat_lt b 0x80)

-- the number of bytes
abbrev pub twos_complement : List ℕ → ℤ
twos_complement bs = if is_negative bs then pos (magnitude bs) -ℤ pos (256 ^ length bs) else pos (magnitude bs)

-- the first byte says nothing but the sign, which the next one says too
abbrev pub is_redundant : ℕ → ℕ → Bool
is_redundant first next = (first == 0x00 && nat_lt next 0x80) || (first == 0xff && not (nat_lt next 0x80))

-- the bytes without redundant ones at their front; one byte always stays
unfoldable pub shortest : List ℕ → List ℕ
shortest [] = []
shortest (b ∷ []) = b ∷ []
shortest (b ∷ c ∷ bs) = if is_redundant b c then shortest (c ∷ bs) else b ∷ c ∷ bs

-- ---- what comes of it

-- it is the same number
abbrev pub KeepsTheNumber : Type 0
KeepsTheNumber = (bs : List ℕ) → twos_complement (shortest bs) ≡ twos_complement bs

abbrev pub IsShortest : List ℕ → Type 0
IsShortest (b ∷ c ∷ bs) = is_redundant b c ≡ false
IsShortest bs = Unit {0}

-- no byte that is redundant stays at the front
abbrev pub LeavesNoneRedundant : Type 0
LeavesNoneRedundant = (bs : List ℕ) → IsShortest (shortest bs)

abbrev pub AreBytes : List ℕ → Type 0
AreBytes bs = AllByRecursion (λ (b : ℕ). b < 256) bs

-- one number is kept as the same bytes, however many bytes it was written with
abbrev pub KeepsOneSpelling : Type 0
KeepsOneSpelling = (xs ys : List ℕ) → 0 < length xs → 0 < length ys → AreBytes xs → AreBytes ys
    → twos_complement xs ≡ twos_complement ys → shortest xs ≡ shortest ys
