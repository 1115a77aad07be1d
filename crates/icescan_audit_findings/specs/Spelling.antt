-- The spellings of paths by which live files are told apart, so that two that a store may take for one file are one: as
-- `plain` spells them, but with two slashes behind the scheme, as most paths have them. (37 is the percent sign, 47 the
-- slash, 58 the colon, 115 and 51 are `s3`, 97 is `a` and 110 is `n`.)
use Rattle.std.specs.Prelude.{ℕ, Bool, true, false, not, ◌==◌, ◌&&◌, ◌||◌, List, [], ◌∷◌, ◌++◌, Option, Some, None}
use Rattle.std.specs.Prelude.{if◌then◌else◌}
use Rattle.icescan_paths.specs.Spelling.{plain}

abbrev pub begins_with_slash : List ℕ → Bool
begins_with_slash [] = false
begins_with_slash (b ∷ bs) = b == 47

-- the slash stands before a slash, and not behind a colon; or behind a colon, and not before a slash
abbrev pub is_odd_slash : ℕ → List ℕ → Bool
is_odd_slash before behind = if begins_with_slash behind then not (before == 58) else before == 58

-- an escape's percent sign, or such a slash
abbrev pub is_odd_byte : ℕ → ℕ → List ℕ → Bool
is_odd_byte before b behind = b == 37 || b == 47 && is_odd_slash before behind

-- the first byte stands behind this one
abbrev pub has_oddity : ℕ → List ℕ → Bool
has_oddity before [] = false
has_oddity before (b ∷ bs) = is_odd_byte before b bs || has_oddity b bs

-- the path has the scheme `s3a:` or `s3n:`
abbrev pub is_of_object_store : List ℕ → Bool
is_of_object_store (a ∷ b ∷ c ∷ d ∷ rest) = a == 115 && b == 51 && (c == 97 || c == 110) && d == 58
is_of_object_store _ = false

abbrev pub is_odd : List ℕ → Bool
is_odd path = is_of_object_store path || has_oddity 0 path

-- one more slash behind a colon that stands before one
abbrev pub with_slash : ℕ → List ℕ → List ℕ
with_slash b behind = if b == 58 && begins_with_slash behind then b ∷ 47 ∷ [] else b ∷ []

abbrev pub with_slashes : List ℕ → List ℕ
with_slashes [] = []
with_slashes (b ∷ bs) = with_slash b bs ++ with_slashes bs

-- the spelling, where it is another than the path as it stands
abbrev pub odd_spelling : List ℕ → Option (List ℕ)
odd_spelling path = if is_odd path then Some (with_slashes (plain path)) else None
