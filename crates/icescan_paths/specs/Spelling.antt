-- One spelling for all paths that may name the same file. (47 is the slash, 115 and 51 are `s3`, 97 is `a`, 110 is `n`,
-- 58 is the colon.)
use Rattle.std.specs.Prelude.{ℕ, Bool, false, ◌==◌, ◌&&◌, ◌||◌, List, [], ◌∷◌, ◌++◌, Option, Some, None, codes}
use Rattle.std.specs.Prelude.{if◌then◌else◌}
use Rattle.percent_encoding.specs.Percent.{percent_decode}

-- a byte is a slash before another one
abbrev pub is_slash_again : ℕ → List ℕ → Bool
is_slash_again first [] = false
is_slash_again first (next ∷ rest) = first == 47 && next == 47

-- one slash in place of each run of slashes
abbrev pub single_slashes : List ℕ → List ℕ
single_slashes [] = []
single_slashes (first ∷ rest) =
    if is_slash_again first rest then single_slashes rest else first ∷ single_slashes rest

-- what stands behind `s3a:` or `s3n:` at the front of a path
abbrev pub behind_scheme : List ℕ → Option (List ℕ)
behind_scheme (a ∷ b ∷ c ∷ d ∷ rest) =
    if a == 115 && b == 51 && (c == 97 || c == 110) && d == 58 then Some rest else None
behind_scheme path = None

-- the scheme `s3:` in place of these
abbrev pub with_scheme : List ℕ → Option (List ℕ) → List ℕ
with_scheme path None = path
with_scheme path (Some rest) = codes "s3:" ++ rest

abbrev pub one_scheme : List ℕ → List ℕ
one_scheme path = with_scheme path (behind_scheme path)

-- the spelling that all spellings of a path share
abbrev pub plain : List ℕ → List ℕ
plain path = one_scheme (single_slashes (percent_decode path))
