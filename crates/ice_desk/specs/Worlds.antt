-- What lies at the paths that a scan reads.
use Rattle.std.specs.Prelude.{◌≡◌, ◌⊎◌, ℕ, true, List, [], ◌∷◌, Option, Some, None, is_some}
use Rattle.ice_state.specs.Contents.{World}

-- where the world is told, it has this at the path: the file's bytes, or nothing
abbrev pub HasAt : Option World → List ℕ → Option (List ℕ) → Type 0
HasAt None path found = Unit {0}
HasAt (Some world) path found = world path ≡ found

-- Reading these in turn ends at a path that is so: the files before it are there.
abbrev pub EndsAt : World → (List ℕ → Type 0) → List (List ℕ) → List ℕ → Type 0
EndsAt world so [] path = ⊥
EndsAt world so (next ∷ paths) path = ((path ≡ next) × so path)
    ⊎ ((is_some (world next) ≡ true) × EndsAt world so paths path)

-- at the first file that is not there
abbrev pub EndsAtAbsent : World → List (List ℕ) → List ℕ → Type 0
EndsAtAbsent world paths path = EndsAt world (λ p. world p ≡ None) paths path
