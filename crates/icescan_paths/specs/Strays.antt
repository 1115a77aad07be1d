-- Which files of a folder are none of those that are known.
use Rattle.std.specs.Prelude.{◌≡◌, ◌≢◌, ◌<◌, ℕ, nat_le, ◌||◌, List, [], ◌∷◌, Option, Some, None, map}
use Rattle.std.specs.Prelude.{if◌then◌else◌}
use Rattle.std.specs.List.{Contains, flat_map}
use Rattle.icescan_paths.specs.Paths.{has}
use Rattle.icescan_paths.specs.Spelling.{plain}
use Rattle.icescan_paths.specs.declared.aged.AgedFile.{AgedFile}
use Rattle.icescan_paths.specs.declared.aged.Stray.{Stray}
use Rattle.icescan_paths.specs.declared.aged.StrayKind.{StrayKind}
use Rattle.icescan_paths.specs.declared.aged.StrayKind.TheVariants as kind

-- What a file is beside known paths and their plain spellings: nothing is said of one that is known as it stands. It is
-- an orphan only if it is older than so many milliseconds and no known path has its plain spelling.
abbrev pub kind_of : List (List ℕ) → List (List ℕ) → ℕ → AgedFile → Option StrayKind
kind_of paths plains older file =
    if has paths file.path then None
    else if has plains (plain file.path) || nat_le file.age_ms older then Some kind.Doubtful
    else Some kind.Orphan

abbrev pub stray_where : Option StrayKind → List ℕ → List Stray
stray_where None path = []
stray_where (Some kind) path = record { kind = kind; path = path } ∷ []

abbrev pub strays_beside : List (List ℕ) → List (List ℕ) → ℕ → List AgedFile → List Stray
strays_beside paths plains older files =
    flat_map (λ (file : AgedFile). stray_where (kind_of paths plains older file) file.path) files

-- the files that are none of the known ones
abbrev pub strays : List (List ℕ) → ℕ → List AgedFile → List Stray
strays known older files = strays_beside known (map plain known) older files

-- an orphan is no known path, nor another spelling of one
abbrev pub AreNoKnownOrphans : Type 0
AreNoKnownOrphans = (known : List (List ℕ)) (older : ℕ) (files : List AgedFile) (path other : List ℕ)
    → Contains (strays known older files) (record { kind = kind.Orphan; path = path }) → Contains known other
    → plain other ≢ plain path

-- an orphan is a file of the folder that is older
abbrev pub AreOldOrphans : Type 0
AreOldOrphans = (known : List (List ℕ)) (older : ℕ) (files : List AgedFile) (path : List ℕ)
    → Contains (strays known older files) (record { kind = kind.Orphan; path = path })
    → (file : AgedFile) × Contains files file × (file.path ≡ path) × (older < file.age_ms)
