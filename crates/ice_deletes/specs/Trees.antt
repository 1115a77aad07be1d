-- Indexes that are merged two by two.
use Rattle.std.specs.Prelude.{ℕ, List, ◌++◌}
use Rattle.std.specs.List.Sorted.{IsPermutation}
use Rattle.ice_value.specs.Applying.{DeleteKey}
use Rattle.ice_deletes.specs.Indexes.{AreDistinct}
use Rattle.ice_deletes.specs.Unions.{renumbered, IsUnion}

-- an index of these files, or one that takes in another under the numbers that its files get
pub data Tree : Type 0 where
  one : List (ℕ × DeleteKey) → Tree
  both : Tree → List ℕ → Tree → Tree

-- what the tree's merges may end in
abbrev pub EndsIn : Tree → List (ℕ × DeleteKey) → Type 0
EndsIn (one files) last = AreDistinct files × IsPermutation files last
EndsIn (both tree to other) last = (a b : List (ℕ × DeleteKey)) × EndsIn tree a × EndsIn other b ×
    IsUnion a (renumbered to b) last

-- the files of all its indexes, under the numbers of the last one
abbrev pub files_of : Tree → List (ℕ × DeleteKey)
files_of (one files) = files
files_of (both tree to other) = files_of tree ++ renumbered to (files_of other)
