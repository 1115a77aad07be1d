-- The files of a folder: which of a table's paths name one, by which name it is opened, and how a new one is put.
use Rattle.std.specs.Prelude.{◌≡◌, ◌⊎◌, ℕ, Bool, false, ◌==◌, ◌||◌, List, [], ◌∷◌, ◌++◌, codes, Option, Some, None}
use Rattle.std.specs.Prelude.{Result, Ok, Err, if◌then◌else◌}
use Rattle.std.specs.Fmt.{decimal}
use Rattle.std.specs.List.{list_any}
use Rattle.std.specs.Str.{bytes_eq}
use Rattle.std.specs.IoError.{error_kind}
use Rattle.std.specs.declared.io.Error.{Error}
use Rattle.std.specs.declared.io.ErrorKind.TheVariants.{InvalidInput, Unsupported}
use Rattle.icescan_files.specs.Bundles.{before_line}
use Rattle.ice_catalog_changes.specs.NewFiles.{uuid_text}
use Rattle.ice_catalog_changes.specs.declared.change.Ids.{Ids}

-- the parts of a path between its slashes (47)
abbrev pub segments : List ℕ → List (List ℕ)
segments [] = [] ∷ []
segments (b ∷ bs) = if b == 47 then [] ∷ segments bs else before_line b (segments bs)

-- whether a segment is `.` or `..`, which name a folder and the one above it
abbrev pub is_dots : List ℕ → Bool
is_dots segment = bytes_eq segment (codes ".") || bytes_eq segment (codes "..")

unfoldable pub has_dots : List ℕ → Bool
has_dots path = list_any is_dots (segments path)

abbrev pub without_slash : List ℕ → List ℕ
without_slash [] = []
without_slash (b ∷ rest) = if b == 47 then rest else b ∷ rest

-- A path is inside: it begins with the prefix, and no segment of what stands behind it is `.` or `..`. The rest is
-- that, without a slash at its front.
pub record Inside (prefix path rest : List ℕ) : Type 0 where
  pub behind : List ℕ
  pub begins : path ≡ prefix ++ behind
  pub stays : has_dots behind ≡ false
  pub rest_is : rest ≡ without_slash behind

-- the name that a path's file has in a folder; a path that is not inside has none
abbrev pub IsNamed : List ℕ → List ℕ → List ℕ → Option (List ℕ) → Type 0
IsNamed folder prefix path None = (rest : List ℕ) → Inside prefix path rest → ⊥
IsNamed folder prefix path (Some name) = (rest : List ℕ) × Inside prefix path rest × (name ≡ folder ++ 47 ∷ rest)

-- what a read of a file by its name may give: what one below some folder may give, of the file that has this path there
abbrev pub named : (List ℕ → List ℕ → List ℕ → Option (List ℕ) → Type 0) → List ℕ → Option (List ℕ) → Type 0
named gives name found = (folder : List ℕ) × (prefix : List ℕ) × gives folder prefix name found

-- ---- new files

-- The refusal of a sync says that there is no such thing: EINVAL, or EOPNOTSUPP and ENOSYS.
abbrev pub HasNoSync : Error → Type 0
HasNoSync e = (error_kind e ≡ InvalidInput) ⊎ (error_kind e ≡ Unsupported)

-- The names of a folder last after a sync of it that ended so, as far as the file system can see to that.
abbrev pub IsKept : Result (Unit {0}) Error → Type 0
IsKept (Ok done) = Unit {0}
IsKept (Err e) = HasNoSync e

-- FOLDER/.icescan-UUID-N.tmp: what a commit has not written whole yet
abbrev pub aside_name : List ℕ → Ids → ℕ → List ℕ
aside_name folder ids n = folder ++ codes "/.icescan-" ++ uuid_text ids ++ codes "-" ++ decimal n ++ codes ".tmp"
