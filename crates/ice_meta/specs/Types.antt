-- The texts of primitive types (Apache Iceberg table spec v2, "Appendix C: JSON serialization", Schemas): `fixed[L]`
-- and `decimal(P,S)` have their numbers in decimal digits, below 2 ^ 31; a space may follow the comma.
use Rattle.std.specs.Prelude.{ℕ, ◌+◌, ◌-◌, ◌*◌, ◌^◌, ◌==◌, ◌&&◌, List, [], ◌∷◌, length, drop, codes, Option, None, Some}
use Rattle.std.specs.Prelude.{if◌then◌else◌, nat_lt, nat_eq}
use Rattle.std.specs.Option.{option_and_then, option_or}
use Rattle.std.specs.List.{starts_with}
use Rattle.std.specs.Str.{bytes_eq}
use Rattle.ice_value.specs.declared.column_type.ColumnType.{ColumnType}
use Rattle.ice_value.specs.declared.column_type.ColumnType.TheVariants as type

-- the primitive types without numbers
unfoldable pub plain : List ℕ → Option ColumnType
plain s =
    if bytes_eq s (codes "boolean") then Some type.Boolean
    else (if bytes_eq s (codes "int") then Some type.Int
    else (if bytes_eq s (codes "long") then Some type.Long
    else (if bytes_eq s (codes "float") then Some type.Float
    else (if bytes_eq s (codes "double") then Some type.Double
    else (if bytes_eq s (codes "date") then Some type.Date
    else (if bytes_eq s (codes "time") then Some type.Time
    else (if bytes_eq s (codes "timestamp") then Some type.Timestamp
    else (if bytes_eq s (codes "timestamptz") then Some type.Timestamptz
    else (if bytes_eq s (codes "string") then Some type.String
    else (if bytes_eq s (codes "uuid") then Some type.Uuid
    else (if bytes_eq s (codes "binary") then Some type.Binary else None)))))))))))

-- the number after one more digit, where it stays below 2 ^ 31
abbrev pub with_digit : ℕ → ℕ → Option ℕ
with_digit n b =
    if nat_lt 47 b && nat_lt b 58 && nat_lt (n * 10 + (b - 48)) (2 ^ 31) then Some (n * 10 + (b - 48)) else None

-- the number that the digits write after those of n, up to the first end, and what follows it
abbrev pub digits_until : ℕ → ℕ → List ℕ → Option (ℕ × List ℕ)
digits_until end n [] = None
digits_until end n (b ∷ bs) =
    if b == end then Some (n, bs) else option_and_then (λ m. digits_until end m bs) (with_digit n b)

-- the number of one or more digits up to the first end, and what follows it
abbrev pub number_until : ℕ → List ℕ → Option (ℕ × List ℕ)
number_until end [] = None
number_until end (b ∷ bs) = if b == end then None else digits_until end 0 (b ∷ bs)

-- what follows the front
abbrev pub after : List ℕ → List ℕ → Option (List ℕ)
after front s = if starts_with nat_eq s front then Some (drop (length front) s) else None

-- what follows a space (32), or all where there is none
abbrev pub behind_space : List ℕ → List ℕ
behind_space [] = []
behind_space (b ∷ bs) = if b == 32 then bs else b ∷ bs

abbrev pub if_end : {A : Type 0} → List ℕ → A → Option A
if_end [] x = Some x
if_end (b ∷ bs) x = None

infixl 10 ◌>>=◌
abbrev pub ◌>>=◌ : {A B : Type 0} → Option A → (A → Option B) → Option B
None >>= f = None
(Some x) >>= f = f x

-- `fixed[L]`, where 93 is the closing bracket
unfoldable pub fixed : List ℕ → Option ColumnType
fixed s = do
  rest ← after (codes "fixed[") s
  size ← number_until 93 rest
  if_end size.1 (type.Fixed size.0)

-- `decimal(P,S)`, where 44 is the comma and 41 the closing parenthesis
unfoldable pub decimal : List ℕ → Option ColumnType
decimal s = do
  rest ← after (codes "decimal(") s
  precision ← number_until 44 rest
  scale ← number_until 41 (behind_space precision.1)
  if_end scale.1 (type.Decimal precision.0 scale.0)

-- the primitive type of a text
abbrev pub primitive : List ℕ → Option ColumnType
primitive s = option_or (plain s) (option_or (fixed s) (decimal s))
