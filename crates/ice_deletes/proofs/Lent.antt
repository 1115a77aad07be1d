-- What the shelves of an index lend for a data file.
use Rattle.std.proofs.Common.{◌≡◌, ℕ, ◌+◌, ◌≤◌, ◌==◌, ◌&&◌, List, ◌++◌, sym, subst, ◌∙◌}
use Rattle.std.specs.List.{Contains, count_by}
use Rattle.std.specs.List.Sorted.{IsPermutation}
use Rattle.std.proofs.lemmas.List.Elements.{recursion_from_All}
use Rattle.std.proofs.lemmas.List.Sorted.{IsPermutation-refl}
use Rattle.ice_value.specs.Applying.{DataKey, applies}
use Rattle.ice_deletes.specs.declared.group.Group.{Group}
use Rattle.ice_deletes.specs.declared.group.Group.TheVariants.{Positions, Referenced, Equalities, Everywhere}
use Rattle.ice_deletes.specs.declared.index.DeleteIndex.TheInside.{Inside}
use Rattle.ice_deletes.specs.declared.shelf.Shelf.{Shelf}
use Rattle.ice_deletes.specs.Found.{numbers_where, AppliesAt}
use Rattle.ice_deletes.specs.Groups.{is_in}
use Rattle.ice_deletes.specs.Indexes.{IsIndex, entries_in}
use Rattle.ice_deletes.specs.Shelves.{IsShelf}
use Rattle.ice_deletes.proofs.Applying.{key_for, positions_apply, referenced_apply, equalities_apply, everywhere_apply}
use Rattle.ice_deletes.proofs.Slices.{AreIn, Lends, entries, shelf_lends, all_four, by_shelf, positions_are}
use Rattle.ice_deletes.proofs.Slices.{referenced_are}
use Rattle.ice_deletes.proofs.Slices.{equalities_are, everywhere_are, lent_applies, lent_once}

same : (ms ns : List ℕ) → ms ≡ ns → IsPermutation ms ns
same ms ns e = let P : List ℕ → Type 0 = λ ks. IsPermutation ms ks in subst P e (IsPermutation-refl ms)

of_shelf : (g : Group) (s : Shelf) → IsShelf g s → AreIn g s.deletes.items
of_shelf g s is = recursion_from_All _ s.deletes.items is.grouped

module _ (i : Inside) (is : IsIndex i) (x : DataKey) (numbers : List ℕ) where
  positions_is : Lends i.positions (key_for x x.sequence_number) numbers
      → numbers ≡ numbers_where (applies x) (entries i.positions.deletes.items)
  positions_is found = shelf_lends Positions i.positions is.positions x (key_for x x.sequence_number) numbers
      (positions_apply x) found

  referenced_is : Lends i.referenced (key_for x x.sequence_number) numbers
      → numbers ≡ numbers_where (applies x) (entries i.referenced.deletes.items)
  referenced_is found = shelf_lends Referenced i.referenced is.referenced x (key_for x x.sequence_number) numbers
      (referenced_apply x) found

  equalities_is : Lends i.equalities (key_for x (x.sequence_number + 1)) numbers
      → numbers ≡ numbers_where (applies x) (entries i.equalities.deletes.items)
  equalities_is found = shelf_lends Equalities i.equalities is.equalities x (key_for x (x.sequence_number + 1)) numbers
      (equalities_apply x) found

  everywhere_is : Lends i.everywhere (key_for x (x.sequence_number + 1)) numbers
      → numbers ≡ numbers_where (applies x) (entries i.everywhere.deletes.items)
  everywhere_is found = shelf_lends Everywhere i.everywhere is.everywhere x (key_for x (x.sequence_number + 1)) numbers
      (everywhere_apply x) found

  pub positions_lent : Lends i.positions (key_for x x.sequence_number) numbers
      → IsPermutation (numbers_where (λ d. is_in Positions d && applies x d) (entries_in i)) numbers
  positions_lent found = same _ numbers (positions_are i.positions.deletes.items i.referenced.deletes.items
      i.equalities.deletes.items i.everywhere.deletes.items (of_shelf Positions i.positions is.positions)
      (of_shelf Referenced i.referenced is.referenced)
      (of_shelf Equalities i.equalities is.equalities) (of_shelf Everywhere i.everywhere is.everywhere)
      (applies x) ∙ sym (positions_is found))

  pub referenced_lent : Lends i.referenced (key_for x x.sequence_number) numbers
      → IsPermutation (numbers_where (λ d. is_in Referenced d && applies x d) (entries_in i)) numbers
  referenced_lent found = same _ numbers (referenced_are i.positions.deletes.items i.referenced.deletes.items
      i.equalities.deletes.items i.everywhere.deletes.items (of_shelf Positions i.positions is.positions)
      (of_shelf Referenced i.referenced is.referenced)
      (of_shelf Equalities i.equalities is.equalities) (of_shelf Everywhere i.everywhere is.everywhere)
      (applies x) ∙ sym (referenced_is found))

  pub equalities_lent : Lends i.equalities (key_for x (x.sequence_number + 1)) numbers
      → IsPermutation (numbers_where (λ d. is_in Equalities d && applies x d) (entries_in i)) numbers
  equalities_lent found = same _ numbers (equalities_are i.positions.deletes.items i.referenced.deletes.items
      i.equalities.deletes.items i.everywhere.deletes.items (of_shelf Positions i.positions is.positions)
      (of_shelf Referenced i.referenced is.referenced)
      (of_shelf Equalities i.equalities is.equalities) (of_shelf Everywhere i.everywhere is.everywhere)
      (applies x) ∙ sym (equalities_is found))

  pub everywhere_lent : Lends i.everywhere (key_for x (x.sequence_number + 1)) numbers
      → IsPermutation (numbers_where (λ d. is_in Everywhere d && applies x d) (entries_in i)) numbers
  everywhere_lent found = same _ numbers (everywhere_are i.positions.deletes.items i.referenced.deletes.items
      i.equalities.deletes.items i.everywhere.deletes.items (of_shelf Positions i.positions is.positions)
      (of_shelf Referenced i.referenced is.referenced)
      (of_shelf Equalities i.equalities is.equalities) (of_shelf Everywhere i.everywhere is.everywhere)
      (applies x) ∙ sym (everywhere_is found))

-- what was found on each shelf
pub record AreFound (i : Inside) (x : DataKey) (p r e w : List ℕ) : Type 0 where
  pub positions : Lends i.positions (key_for x x.sequence_number) p
  pub referenced : Lends i.referenced (key_for x x.sequence_number) r
  pub equalities : Lends i.equalities (key_for x (x.sequence_number + 1)) e
  pub everywhere : Lends i.everywhere (key_for x (x.sequence_number + 1)) w

module _ (i : Inside) (is : IsIndex i) (x : DataKey) (p r e w : List ℕ) (found : AreFound i x p r e w) where
  all_is : p ++ r ++ e ++ w ≡ numbers_where (applies x) (entries_in i)
  all_is = all_four p r e w _ _ _ _ (positions_is i is x p found.positions) (referenced_is i is x r found.referenced)
      (equalities_is i is x e found.equalities) (everywhere_is i is x w found.everywhere)
      ∙ sym (by_shelf i.positions.deletes.items i.referenced.deletes.items i.equalities.deletes.items
      i.everywhere.deletes.items (of_shelf Positions i.positions is.positions) (of_shelf Referenced i.referenced
      is.referenced) (of_shelf Equalities i.equalities is.equalities) (of_shelf Everywhere i.everywhere is.everywhere)
      (applies x))

  -- exactly what applies
  pub all_apply : (n : ℕ) → (Contains (p ++ r ++ e ++ w) n → AppliesAt (entries_in i) x n)
      × (AppliesAt (entries_in i) x n → Contains (p ++ r ++ e ++ w) n)
  all_apply n =
      let P : List ℕ → Type 0 = λ ns. (Contains ns n → AppliesAt (entries_in i) x n)
      × (AppliesAt (entries_in i) x n → Contains ns n) in
      subst P (sym all_is) (lent_applies (entries_in i) x n)

  -- each number once
  pub all_once : (n : ℕ) → count_by (λ m. m == n) (p ++ r ++ e ++ w) ≤ 1
  all_once n =
      let P : List ℕ → Type 0 = λ ns. count_by (λ m. m == n) ns ≤ 1 in
      subst P (sym all_is) (lent_once (entries_in i) x is.distinct n)
