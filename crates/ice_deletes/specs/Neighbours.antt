-- What was found for a data file, and its neighbours: data files of one spec, tuple and sequence number.
use Rattle.std.specs.Prelude.{ℕ, ◌&&◌, List}
use Rattle.std.specs.List.Sorted.{IsPermutation}
use Rattle.ice_value.specs.Applying.{DataKey, DeleteKey, applies}
use Rattle.ice_deletes.specs.declared.finder.Last.{Last}
use Rattle.ice_deletes.specs.declared.group.Group.{Group}
use Rattle.ice_deletes.specs.declared.group.Group.TheVariants.{Positions, Referenced, Equalities, Everywhere}
use Rattle.ice_deletes.specs.declared.index.Hits.{Hits}
use Rattle.ice_deletes.specs.Found.{data_key, numbers_where}
use Rattle.ice_deletes.specs.Groups.{is_in}

-- the numbers of the files of the group that apply to x
abbrev pub numbers_for : Group → DataKey → List (ℕ × DeleteKey) → List ℕ
numbers_for g x files = numbers_where (λ d. is_in g d && applies x d) files

-- each slice has those of its group
pub record AreHits (x : DataKey) (files : List (ℕ × DeleteKey)) (hits : Hits) : Type 0 where
  pub positions : IsPermutation (numbers_for Positions x files) hits.positions.now
  pub referenced : IsPermutation (numbers_for Referenced x files) hits.referenced.now
  pub equalities : IsPermutation (numbers_for Equalities x files) hits.equalities.now
  pub everywhere : IsPermutation (numbers_for Everywhere x files) hits.everywhere.now

-- a neighbour at this path
abbrev pub neighbour : Last → List ℕ → DataKey
neighbour l path = data_key l.spec_id l.tuple.now l.sequence_number path

-- these were found for a neighbour
abbrev pub WereFound : List (ℕ × DeleteKey) → Last → Type 0
WereFound files l = (path : List ℕ) × AreHits (neighbour l path) files l.hits
