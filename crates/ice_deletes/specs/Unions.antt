-- Delete files of two indexes, under the numbers of one.
use Rattle.std.specs.Prelude.{◌≡◌, ◌<◌, ◌==◌, ℕ, not, List, map, filter, All, Contains, ◌↔◌, ◌⊎◌, slice_index}
use Rattle.std.specs.List.{list_any}
use Rattle.ice_value.specs.Applying.{DeleteKey}
use Rattle.ice_deletes.specs.Indexes.{AreDistinct}

-- the files under other numbers: to has the new number of each old one
abbrev pub renumbered : List ℕ → List (ℕ × DeleteKey) → List (ℕ × DeleteKey)
renumbered to files = map (λ e. (slice_index to e.0, e.1)) files

-- each file's number is below this
abbrev pub AreBelow : ℕ → List (ℕ × DeleteKey) → Type 0
AreBelow n files = All (λ e. e.0 < n) files

-- a number that both have is one file's
abbrev pub Agree : List (ℕ × DeleteKey) → List (ℕ × DeleteKey) → Type 0
Agree files others = (n : ℕ) (d e : DeleteKey) → Contains files (n, d) → Contains others (n, e) → d ≡ e

-- all has the files of both and no further ones, each number once
pub record IsUnion (files others all : List (ℕ × DeleteKey)) : Type 0 where
  pub same : (n : ℕ) (d : DeleteKey) → Contains all (n, d) ↔ (Contains files (n, d) ⊎ Contains others (n, d))
  pub once : AreDistinct all

-- the files whose numbers aren't among these
abbrev pub unheld : List ℕ → List (ℕ × DeleteKey) → List (ℕ × DeleteKey)
unheld held files = filter (λ e. not (list_any (λ n. n == e.0) held)) files
