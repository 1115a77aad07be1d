-- Hints: lines of text, for people, in which no control byte stands.
use Rattle.std.specs.Prelude.{◌≡◌, ℕ, List, [], ◌∷◌, ◌++◌, ◌||◌, ◌==◌, nat_lt, map, if◌then◌else◌}
use Rattle.std.specs.List.{flat_map}

-- a control byte, which a terminal could take for a command, stands as `?`, which is 63
abbrev pub plain_byte : ℕ → ℕ
plain_byte byte = if nat_lt byte 32 || byte == 127 then 63 else byte

-- a line with its line feed, which is 10
abbrev pub plain_line : List ℕ → List ℕ
plain_line line = map plain_byte line ++ 10 ∷ []

abbrev pub plain_lines : List (List ℕ) → List ℕ
plain_lines lines = flat_map plain_line lines

abbrev pub IsHint : List ℕ → Type 0
IsHint text = (lines : List (List ℕ)) × (text ≡ plain_lines lines)
