-- What a terminal is sent of a line of progress. (13 is the carriage return; 27 91 75, `ESC [ K`, erases the line from
-- the cursor on.)
use Rattle.std.specs.Prelude.{◌≡◌, ℕ, ◌/◌, Bool, true, ◌&&◌, nat_le, nat_lt, List, [], ◌∷◌, ◌++◌, codes}
use Rattle.std.specs.List.{list_all}
use Rattle.icescan_print.specs.Pieces.{named_number}

abbrev pub erasing : List ℕ
erasing = 27 ∷ 91 ∷ 75 ∷ []

-- what is sent so that no line is shown
abbrev pub erasure : List ℕ
erasure = 13 ∷ erasing

-- what a user reads
abbrev pub told : ℕ → ℕ → List ℕ
told files bytes = named_number (codes "read so far: ") files
    ++ (named_number (codes " files, ") (bytes / 1000000) ++ codes " MB")

-- what is sent of it: it stands over the line before, of which nothing is left
abbrev pub progress_text : ℕ → ℕ → List ℕ
progress_text files bytes = 13 ∷ (told files bytes ++ erasing)

-- a character of one place, and no control character
abbrev pub is_printed : ℕ → Bool
is_printed byte = nat_le 32 byte && nat_lt byte 127

-- What may be sent: the carriage return, what a user reads, and what erases all behind it. No other control character
-- is among it.
abbrev pub IsShown : List ℕ → Type 0
IsShown bytes = (words : List ℕ) × (list_all is_printed words ≡ true) × (bytes ≡ 13 ∷ (words ++ erasing))
