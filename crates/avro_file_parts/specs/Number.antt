-- Zigzag numbers in groups of seven bits, lowest first.
-- Avro 1.11.1 specification, 'Binary Encoding', 'Primitive Types': int and long are variable-length zig-zag.
use Rattle.std.specs.Prelude.{◌≡◌, ℕ, zero, suc, ◌+◌, ◌-◌, ◌*◌, ◌/◌, ◌%◌, ◌^◌, ◌<◌, ◌≤◌, ℤ, pos, negsuc, List, [], ◌∷◌}
use Rattle.std.specs.Prelude.{length, Result, Ok, Err, nat_lt, ◌==◌, if◌then◌else◌, ◌⊎◌}
use Rattle.avro_file_parts.specs.declared.refusal.Refusal.{Refusal}
use Rattle.avro_file_parts.specs.declared.refusal.Refusal.TheVariants.{Short, BadNumber}
use Rattle.contract_words.specs.Outcome.{◌>>=◌}

-- A byte below 128 is the last, and stands for itself. One from 128 on has the low seven bits, and the
-- bytes after it stand for the rest.
abbrev pub IsGroups : List ℕ → ℕ → Type 0
IsGroups [] n = ⊥
IsGroups (b ∷ bs) n = ((b < 128) × (bs ≡ []) × (n ≡ b))
    ⊎ ((128 ≤ b) × (high : ℕ) × (n ≡ b - 128 + 128 * high) × IsGroups bs high)

-- a number of at most ten groups, below a limit
abbrev pub IsNumber : ℕ → List ℕ → ℕ → Type 0
IsNumber limit bytes n = IsGroups bytes n × (length bytes ≤ 10) × (n < limit)

-- 0, -1, 1, -2, 2 ..
abbrev pub signed_of : ℕ → ℤ
signed_of n = if n % 2 == 0 then pos (n / 2) else negsuc (n / 2)

-- the bytes spell the whole number z of 64 bits
abbrev pub IsLong : List ℕ → ℤ → Type 0
IsLong bytes z = (n : ℕ) × IsNumber (2 ^ 64) bytes n × (z ≡ signed_of n)

-- the bytes spell the whole number z of 32 bits
abbrev pub IsInt : List ℕ → ℤ → Type 0
IsInt bytes z = (n : ℕ) × IsNumber (2 ^ 32) bytes n × (z ≡ signed_of n)

-- ---- reading

-- At most so many groups. The fault is the first: bytes that end too soon, else one group too many.
unfoldable pub groups_at : ℕ → List ℕ → Result (ℕ × List ℕ) Refusal
groups_at zero bytes = Err BadNumber
groups_at (suc turns) [] = Err (Short 0)
groups_at (suc turns) (b ∷ bs) = if nat_lt b 128 then Ok (b, bs)
    else (groups_at turns bs >>= λ x. Ok (b - 128 + 128 * x.0, x.1))

-- A number that isn't whole is named by where it begins: by how many bytes were left there.
abbrev pub from_start : List ℕ → Result (ℕ × List ℕ) Refusal → Result (ℕ × List ℕ) Refusal
from_start bytes (Ok x) = Ok x
from_start bytes (Err (Short n)) = Err (Short (length bytes))
from_start bytes (Err f) = Err f

unfoldable pub number_at : ℕ → List ℕ → Result (ℕ × List ℕ) Refusal
number_at limit bytes = do
  x ← from_start bytes (groups_at 10 bytes)
  if nat_lt x.0 limit then Ok x else Err BadNumber

unfoldable pub long_at : List ℕ → Result (ℤ × List ℕ) Refusal
long_at bytes = do
  x ← number_at (2 ^ 64) bytes
  Ok (signed_of x.0, x.1)

unfoldable pub int_at : List ℕ → Result (ℤ × List ℕ) Refusal
int_at bytes = do
  x ← number_at (2 ^ 32) bytes
  Ok (signed_of x.0, x.1)
