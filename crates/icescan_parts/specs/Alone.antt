-- The lines of files whose paths no other line has. (32 is the space, which stands in no path as these are written.)
use Rattle.std.specs.Prelude.{ℕ, Bool, ◌==◌, List, map}
use Rattle.std.specs.List.{after_first, flat_map}
use Rattle.icescan_parts.specs.Gone.{unless}
use Rattle.icescan_paths.specs.Paths.{has}

abbrev pub is_space : ℕ → Bool
is_space byte = byte == 32

-- the path in a line, as it is written there, and the end of the line
abbrev pub path_of : List ℕ → List ℕ
path_of line = after_first is_space line

-- the lines whose paths are none of these
abbrev pub without_paths : List (List ℕ) → List (List ℕ) → List (List ℕ)
without_paths paths lines = flat_map (λ line. unless (has paths (path_of line)) line) lines

-- the lines whose paths are in none of the other lines
abbrev pub alone : List (List ℕ) → List (List ℕ) → List (List ℕ)
alone lines others = without_paths (map path_of others) lines
