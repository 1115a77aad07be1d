-- What an index keeps.
use Rattle.std.specs.Prelude.{ℕ, ◌≤◌, ◌==◌, List, ◌++◌, map, count_by}
use Rattle.ice_value.specs.Applying.{DeleteKey}
use Rattle.ice_deletes.specs.declared.index.DeleteIndex.TheInside.{Inside}
use Rattle.ice_deletes.specs.declared.group.Group.TheVariants.{Positions, Referenced, Equalities, Everywhere}
use Rattle.ice_deletes.specs.Keys.{entry_of}
use Rattle.ice_deletes.specs.Shelves.{IsShelf}

-- the delete files with their numbers, as they stand on the shelves
abbrev pub entries_in : Inside → List (ℕ × DeleteKey)
entries_in i = map entry_of i.positions.deletes.items ++ map entry_of i.referenced.deletes.items
    ++ map entry_of i.equalities.deletes.items ++ map entry_of i.everywhere.deletes.items

-- no two delete files have one number
abbrev pub AreDistinct : List (ℕ × DeleteKey) → Type 0
AreDistinct files = (n : ℕ) → count_by (λ e. e.0 == n) files ≤ 1

-- each group has its shelf, and no two delete files have one number
pub record IsIndex (i : Inside) : Type 0 where
  pub positions : IsShelf Positions i.positions
  pub referenced : IsShelf Referenced i.referenced
  pub equalities : IsShelf Equalities i.equalities
  pub everywhere : IsShelf Everywhere i.everywhere
  pub distinct : AreDistinct (entries_in i)
