-- How states come about: by taking manifests, and by merging what others took. One after the other they make a tree.
use Rattle.std.specs.Prelude.{◌≡◌, ℕ, ◌==◌, Bool, false, ◌||◌, List, length, replicate, None}
use Rattle.ice_state.specs.Contents.{Content, World, HasBytes, took, no_row, add}
use Rattle.ice_state.specs.Joins.{join, either}
use Rattle.ice_state.specs.Scans.{Scanned}

-- the empty state; a state that takes row i, whose manifest has these bytes; a state that another is merged into
pub data Run : Type 0 where
  empty : Run
  take : Run → ℕ → List ℕ → Run
  merge : Run → Run → Run

-- each row's bytes are those of the world
abbrev pub IsIn : World → Scanned → Run → Type 0
IsIn world scan empty = Unit {0}
IsIn world scan (take run i bytes) = IsIn world scan run × HasBytes world scan i bytes
IsIn world scan (merge run other) = IsIn world scan run × IsIn world scan other

-- whether row i is taken, on whichever branch
abbrev pub takes : Run → ℕ → Bool
takes empty i = false
takes (take run j bytes) i = takes run i || (j == i)
takes (merge run other) i = takes run i || takes other i

-- the set of the rows that are taken
abbrev pub taken : Scanned → Run → List Bool
taken scan empty = no_row scan
taken scan (take run i bytes) = add (taken scan run) i
taken scan (merge run other) = either (taken scan run) (taken scan other)

-- both take the same rows, in whatever order, however often, and on however many states
abbrev pub TakeTheSame : Run → Run → Type 0
TakeTheSame run other = (i : ℕ) → takes run i ≡ takes other i

-- the content in the end
abbrev pub after : Scanned → Run → Content
after scan empty = replicate (length scan.wanted) None
after scan (take run i bytes) = took scan (after scan run) i bytes
after scan (merge run other) = join (after scan run) (after scan other)
