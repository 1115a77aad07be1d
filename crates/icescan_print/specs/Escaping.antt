-- Paths and names as the program's own texts show them: a space, a control byte, a backslash and the byte 7f as `\x`
-- and two hexadecimal digits. (92 is the backslash, 120 the letter x, 48 the digit 0, 97 the letter a.)
use Rattle.std.specs.Prelude.{ℕ, ◌+◌, ◌*◌, ◌-◌, ◌/◌, ◌%◌, Bool, ◌||◌, ◌&&◌, ◌==◌, nat_lt, nat_le, List, [], ◌∷◌, Option}
use Rattle.std.specs.Prelude.{Some, None, if◌then◌else◌}
use Rattle.std.specs.List.{flat_map}

-- a hexadecimal digit below 16, in lower case
abbrev pub hex_digit : ℕ → ℕ
hex_digit n = if nat_lt n 10 then 48 + n else 87 + n

-- whether a byte has to be escaped
abbrev pub is_escaped : ℕ → Bool
is_escaped b = nat_le b 32 || (b == 92 || b == 127)

abbrev pub escaped_byte : ℕ → List ℕ
escaped_byte b = if is_escaped b then 92 ∷ 120 ∷ hex_digit (b / 16) ∷ hex_digit (b % 16) ∷ [] else b ∷ []

abbrev pub escaped : List ℕ → List ℕ
escaped bytes = flat_map escaped_byte bytes

-- the number that a hexadecimal digit in lower case stands for
abbrev pub digit_value : ℕ → Option ℕ
digit_value c = if nat_le 48 c && nat_le c 57 then Some (c - 48)
    else if nat_le 97 c && nat_le c 102 then Some (c - 87) else None

-- the byte, where it is one that has to be escaped
abbrev pub only_escaped : ℕ → Option ℕ
only_escaped b = if is_escaped b then Some b else None

-- the byte of two digits
abbrev pub digits_byte : Option ℕ → Option ℕ → Option ℕ
digits_byte (Some high) (Some low) = only_escaped (16 * high + low)
digits_byte (Some high) None = None
digits_byte None low = None

-- a byte before what the rest stands for
abbrev pub before : Option ℕ → Option (List ℕ) → Option (List ℕ)
before (Some b) (Some bytes) = Some (b ∷ bytes)
before (Some b) None = None
before None rest = None

-- a byte that stands as it is
abbrev pub plain_byte : ℕ → Option ℕ
plain_byte b = if is_escaped b then None else Some b

-- the byte that four bytes stand for
abbrev pub escape_byte : ℕ → ℕ → ℕ → ℕ → Option ℕ
escape_byte backslash x high low = if backslash == 92 && x == 120
    then digits_byte (digit_value high) (digit_value low) else None

-- what an escaped text stands for; any other text stands for nothing
abbrev pub unescaped : List ℕ → Option (List ℕ)
unescaped [] = Some []
unescaped (a ∷ b ∷ c ∷ d ∷ rest) = if is_escaped a then before (escape_byte a b c d) (unescaped rest)
    else before (Some a) (unescaped (b ∷ c ∷ d ∷ rest))
unescaped (a ∷ rest) = before (plain_byte a) (unescaped rest)
