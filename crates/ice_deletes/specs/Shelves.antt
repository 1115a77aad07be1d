-- What a shelf keeps.
use Rattle.std.specs.Prelude.{◌≡◌, ◌<◌, ◌≤◌, ◌+◌, ◌-◌, Bool, true, false, List, [], length, All, map, slice_index_or}
use Rattle.std.specs.Prelude.{Option, Some, None}
use Rattle.std.specs.Vec.{vec_capacity}
use Rattle.std.specs.List.Sorted.{IsSortedBy}
use Rattle.std.specs.Ordering.{is_lt}
use Rattle.ice_deletes.specs.declared.delete.Delete.{Delete}
use Rattle.ice_deletes.specs.declared.group.Group.{Group}
use Rattle.ice_deletes.specs.declared.growth.Growth.{Growth}
use Rattle.ice_deletes.specs.declared.shelf.Shelf.{Shelf}
use Rattle.ice_deletes.specs.Keys.{key_in}
use Rattle.ice_deletes.specs.Groups.{is_in, key_cmp, sort_key}

-- the first delete file stands before the second
abbrev pub earlier : Group → Delete → Delete → Bool
earlier g a b = is_lt (key_cmp g (sort_key (key_in a)) (sort_key (key_in b)))

-- the last file of some exists, and is not earlier than the last one of others
abbrev pub ComesLast : Group → List Delete → List Delete → Type 0
ComesLast g files others = (e : Delete) → 0 < length others →
    (0 < length files) × (earlier g (slice_index_or files (length files - 1) e)
    (slice_index_or others (length others - 1) e) ≡ false)

-- the delete files that are taken in, if there are any
abbrev pub fresh_in : Option Growth → List Delete
fresh_in None = []
fresh_in (Some g) = g.fresh.items

-- what is taken in comes with room for all the delete files of the shelf then
pub record HasRoom (s : Shelf) (g : Growth) : Type 0 where
  pub no_deletes : g.deletes.items ≡ []
  pub no_numbers : g.numbers.items ≡ []
  pub deletes : length s.deletes.items + length g.fresh.items ≤ vec_capacity g.deletes
  pub numbers : length s.deletes.items + length g.fresh.items ≤ vec_capacity g.numbers

-- the shelf has files of its group alone, the earlier ones first, and their numbers
pub record IsShelf (g : Group) (s : Shelf) : Type 0 where
  pub of_group : s.group ≡ g
  pub rising : IsSortedBy (earlier g) s.deletes.items
  pub grouped : All (λ d. is_in g (key_in d) ≡ true) s.deletes.items
  pub numbered : s.numbers.items ≡ map (λ (d : Delete). d.number) s.deletes.items
