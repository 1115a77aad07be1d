-- What of a hint reaches a terminal: lines in which each byte that a terminal could take for a command, a control byte,
-- stands as `\x` and two hexadecimal digits.
use Rattle.std.specs.Prelude.{◌≡◌, ◌⊎◌, ℕ, Bool, false, ◌||◌, ◌==◌, nat_lt, List, [], ◌∷◌, ◌++◌, if◌then◌else◌}
use Rattle.std.specs.Prelude.{All, Option}
use Rattle.std.specs.List.{flat_map}
use Rattle.icescan_print.specs.Escaping.{escaped_byte}
use Rattle.icescan_print.specs.Written.{Appends}

abbrev pub is_control : ℕ → Bool
is_control byte = nat_lt byte 32 || byte == 127

abbrev pub shown_byte : ℕ → List ℕ
shown_byte byte = if is_control byte then escaped_byte byte else byte ∷ []

-- a line with its line feed, which is 10
abbrev pub shown_line : List ℕ → List ℕ
shown_line line = flat_map shown_byte line ++ 10 ∷ []

abbrev pub shown : List (List ℕ) → List ℕ
shown lines = flat_map shown_line lines

-- no control byte but the line feed
abbrev pub IsPlain : ℕ → Type 0
IsPlain byte = (byte ≡ 10) ⊎ (is_control byte ≡ false)

-- what was written has no control byte but line feeds
abbrev pub AppendsPlain : Option (List ℕ) → Option (List ℕ) → Type 0
AppendsPlain old new = (written : List ℕ) × All IsPlain written × Appends old new written
