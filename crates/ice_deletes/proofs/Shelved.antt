-- The shelves of indexes that are merged.
use Rattle.std.proofs.Common.{◌≡◌, ℕ, Bool, true, List, [], ◌∷◌, ◌++◌, map, refl, sym}
use Rattle.std.proofs.Common.{ap, subst, ◌∙◌, slice_index}
use Rattle.std.specs.List.{All, AllByRecursion}
use Rattle.std.specs.List.Sorted.{IsPermutation, IsSortedBy}
use Rattle.std.proofs.lemmas.List.{map-append}
use Rattle.std.proofs.lemmas.List.Elements.{All-append, All-filter, All-from_recursion, recursion_from_All}
use Rattle.std.proofs.lemmas.List.Sorted.{All-permutation, IsPermutation-map}
use Rattle.ice_value.specs.Applying.{DeleteKey}
use Rattle.ice_deletes.specs.declared.delete.Delete.{Delete}
use Rattle.ice_deletes.specs.declared.group.Group.{Group}
use Rattle.ice_deletes.specs.declared.index.DeleteIndex.TheInside.{Inside}
use Rattle.ice_deletes.specs.declared.shelf.Shelf.{Shelf}
use Rattle.ice_deletes.specs.Groups.{is_in, key_cmp, sort_key}
use Rattle.ice_deletes.specs.Indexes.{IsIndex, entries_in}
use Rattle.ice_deletes.specs.Keys.{key_in, entry_of}
use Rattle.ice_deletes.specs.Shelves.{IsShelf, earlier}
use Rattle.ice_deletes.specs.Unions.{renumbered, unheld}
use Rattle.std.specs.Ordering.{is_lt}
use Rattle.ice_deletes.proofs.Orders.{earlier_orders}
use Rattle.ice_deletes.proofs.Rising.{Above, Rises, rises_kept, rises_of, sorted_of}

numbers-entries : (ds : List Delete) → map (λ (e : ℕ × DeleteKey). e.0) (map entry_of ds)
    ≡ map (λ (d : Delete). d.number) ds
numbers-entries [] = refl
numbers-entries (d ∷ ds) = ap (λ ns. d.number ∷ ns) (numbers-entries ds)

four : (a b c d e f g h : List ℕ) → a ≡ e → b ≡ f → c ≡ g → d ≡ h → a ++ b ++ c ++ d ≡ e ++ f ++ g ++ h
four a b c d e f g h p q r s = cc

-- the numbers of an index, shelf by shelf
pub numbers_shelved : (i : Inside) → IsIndex i → map (λ (e : ℕ × DeleteKey). e.0) (entries_in i)
    ≡ i.positions.numbers.items ++ i.referenced.numbers.items ++ i.equalities.numbers.items
    ++ i.everywhere.numbers.items
numbers_shelved i is =
    let a = map entry_of i.positions.deletes.items in
    let b = map entry_of i.referenced.deletes.items in
    let c = map entry_of i.equalities.deletes.items in
    let d = map entry_of i.everywhere.deletes.items in
    let number = λ (e : ℕ × DeleteKey). e.0 in
    map-append number (a ++ b ++ c) d
    ∙ ap (λ l. l ++ map number d) (map-append number (a ++ b) c
    ∙ ap (λ l. l ++ map number c) (map-append number a b))
    ∙ four _ _ _ _ _ _ _ _
    (numbers-entries i.positions.deletes.items ∙ sym is.positions.numbered)
    (numbers-entries i.referenced.deletes.items ∙ sym is.referenced.numbered)
    (numbers-entries i.equalities.deletes.items ∙ sym is.equalities.numbered)
    (numbers-entries i.everywhere.deletes.items ∙ sym is.everywhere.numbered)

-- the order of files with their numbers
abbrev sooner : Group → ℕ × DeleteKey → ℕ × DeleteKey → Bool
sooner g a b = is_lt (key_cmp g (sort_key a.1) (sort_key b.1))

-- lists of files, and of the same with their numbers
above-entries : (g : Group) (x : Delete) (ds : List Delete) → Above (earlier g) x ds
    → Above (sooner g) (entry_of x) (map entry_of ds)
above-entries g x [] h = tt
above-entries g x (d ∷ ds) h = (h.0, above-entries g x ds h.1)

rises-entries : (g : Group) (ds : List Delete) → Rises (earlier g) ds → Rises (sooner g) (map entry_of ds)
rises-entries g [] h = tt
rises-entries g (d ∷ ds) h = (above-entries g d ds h.0, rises-entries g ds h.1)

above-files : (g : Group) (x : Delete) (ds : List Delete) → Above (sooner g) (entry_of x) (map entry_of ds)
    → Above (earlier g) x ds
above-files g x [] h = tt
above-files g x (d ∷ ds) h = (h.0, above-files g x ds h.1)

rises-files : (g : Group) (ds : List Delete) → Rises (sooner g) (map entry_of ds) → Rises (earlier g) ds
rises-files g [] h = tt
rises-files g (d ∷ ds) h = (above-files g d ds h.0, rises-files g ds h.1)

above-renumbered : (g : Group) (to : List ℕ) (x : ℕ × DeleteKey) (es : List (ℕ × DeleteKey)) → Above (sooner g) x es
    → Above (sooner g) (slice_index to x.0, x.1) (renumbered to es)
above-renumbered g to x [] h = tt
above-renumbered g to x (e ∷ es) h = (h.0, above-renumbered g to x es h.1)

rises-renumbered : (g : Group) (to : List ℕ) (es : List (ℕ × DeleteKey)) → Rises (sooner g) es
    → Rises (sooner g) (renumbered to es)
rises-renumbered g to [] h = tt
rises-renumbered g to (e ∷ es) h = (above-renumbered g to e es h.0, rises-renumbered g to es h.1)

abbrev InGroup : Group → ℕ × DeleteKey → Type 0
InGroup g e = is_in g e.1 ≡ true

grouped-entries : (g : Group) (ds : List Delete) → AllByRecursion (λ (d : Delete). is_in g (key_in d) ≡ true) ds
    → AllByRecursion (InGroup g) (map entry_of ds)
grouped-entries g [] h = tt
grouped-entries g (d ∷ ds) h = (h.0, grouped-entries g ds h.1)

grouped-files : (g : Group) (ds : List Delete) → AllByRecursion (InGroup g) (map entry_of ds)
    → AllByRecursion (λ (d : Delete). is_in g (key_in d) ≡ true) ds
grouped-files g [] h = tt
grouped-files g (d ∷ ds) h = (h.0, grouped-files g ds h.1)

grouped-renumbered : (g : Group) (to : List ℕ) (es : List (ℕ × DeleteKey)) → AllByRecursion (InGroup g) es
    → AllByRecursion (InGroup g) (renumbered to es)
grouped-renumbered g to [] h = tt
grouped-renumbered g to (e ∷ es) h = (h.0, grouped-renumbered g to es h.1)

-- what a shelf takes in of another shelf of its group
module _ (g : Group) (other : Shelf) (is : IsShelf g other) (held to : List ℕ) (fresh : List Delete)
    (are : map entry_of fresh ≡ unheld held (renumbered to (map entry_of other.deletes.items))) where
  fresh_sorted : IsSortedBy (earlier g) fresh
  fresh_sorted =
      let P : List (ℕ × DeleteKey) → Type 0 = λ es. Rises (sooner g) es in
      sorted_of (earlier g) fresh (rises-files g fresh (subst P (sym are) (rises_kept (sooner g) _ _
      (rises-renumbered g to (map entry_of other.deletes.items) (rises-entries g other.deletes.items
      (rises_of (earlier g) (earlier_orders g) other.deletes.items is.rising))))))

  pub fresh_for : (old : Shelf) → IsShelf g old → IsSortedBy (earlier old.group) fresh
  fresh_for old kept =
      let P : Group → Type 0 = λ h. IsSortedBy (earlier h) fresh in
      subst P (sym kept.of_group) fresh_sorted

  -- its files then
  pub entries_grown : (old new : Shelf) → IsPermutation (old.deletes.items ++ fresh) new.deletes.items
      → IsPermutation (map entry_of old.deletes.items ++ unheld held (renumbered to (map entry_of other.deletes.items)))
      (map entry_of new.deletes.items)
  entries_grown old new all =
      let P : List (ℕ × DeleteKey) → Type 0 = λ es. IsPermutation es (map entry_of new.deletes.items) in
      subst P (map-append entry_of old.deletes.items fresh ∙ ap (λ es. map entry_of old.deletes.items ++ es) are)
      (IsPermutation-map entry_of (old.deletes.items ++ fresh) new.deletes.items all)

  fresh_grouped : All (λ (d : Delete). is_in g (key_in d) ≡ true) fresh
  fresh_grouped =
      let P : List (ℕ × DeleteKey) → Type 0 = λ es. All (InGroup g) es in
      let left : All (InGroup g) (map entry_of fresh) = subst P (sym are) (All-filter _ (InGroup g)
      (renumbered to (map entry_of other.deletes.items)) (All-from_recursion (InGroup g) _ (grouped-renumbered g to _
      (grouped-entries g other.deletes.items (recursion_from_All _ other.deletes.items is.grouped))))) in
      All-from_recursion _ fresh (grouped-files g fresh (recursion_from_All (InGroup g) (map entry_of fresh) left))

  -- the shelf then
  pub shelf_grown : (old new : Shelf) → IsShelf g old → new.group ≡ old.group
      → IsSortedBy (earlier old.group) new.deletes.items
      → IsPermutation (old.deletes.items ++ fresh) new.deletes.items
      → new.numbers.items ≡ map (λ (d : Delete). d.number) new.deletes.items → IsShelf g new
  shelf_grown old new kept group rising all numbered =
      let P : Group → Type 0 = λ h. IsSortedBy (earlier h) new.deletes.items in
      record {
        of_group = group ∙ kept.of_group;
        rising = subst P kept.of_group rising;
        grouped = All-permutation (λ (d : Delete). is_in g (key_in d) ≡ true) (old.deletes.items ++ fresh)
            new.deletes.items all
            (All-append (λ (d : Delete). is_in g
            (key_in d) ≡ true) old.deletes.items fresh kept.grouped fresh_grouped);
        numbered = numbered;
      }

-- the same where the numbers that are held are lent
pub are_fresh : (held lent to : List ℕ) (fresh : List Delete) (es : List (ℕ × DeleteKey)) → lent ≡ held
    → map entry_of fresh ≡ unheld lent (renumbered to es) → map entry_of fresh ≡ unheld held (renumbered to es)
are_fresh held lent to fresh es e h = h ∙ ap (λ ns. unheld ns (renumbered to es)) e

front_of : (P : ℕ × DeleteKey → Type 0) (es fs : List (ℕ × DeleteKey)) → AllByRecursion P (es ++ fs)
    → AllByRecursion P es
front_of P [] fs h = tt
front_of P (e ∷ es) fs h = (h.0, front_of P es fs h.1)

back_of : (P : ℕ × DeleteKey → Type 0) (es fs : List (ℕ × DeleteKey)) → AllByRecursion P (es ++ fs)
    → AllByRecursion P fs
back_of P [] fs h = h
back_of P (e ∷ es) fs h = back_of P es fs h.1

of_files : (P : ℕ × DeleteKey → Type 0) (ds : List Delete) → AllByRecursion P (map entry_of ds)
    → AllByRecursion (λ (d : Delete). P (entry_of d)) ds
of_files P [] h = tt
of_files P (d ∷ ds) h = (h.0, of_files P ds h.1)

-- what holds of the files of an index holds on each shelf
module _ (P : ℕ × DeleteKey → Type 0) (a b c d : List Delete)
    (all : All P (map entry_of a ++ map entry_of b ++ map entry_of c ++ map entry_of d)) where
  every : AllByRecursion P (map entry_of a ++ map entry_of b ++ map entry_of c ++ map entry_of d)
  every = recursion_from_All P _ all

  three : AllByRecursion P (map entry_of a ++ map entry_of b ++ map entry_of c)
  three = front_of P (map entry_of a ++ map entry_of b ++ map entry_of c) (map entry_of d) every

  two : AllByRecursion P (map entry_of a ++ map entry_of b)
  two = front_of P (map entry_of a ++ map entry_of b) (map entry_of c) three

  of_part : (ds : List Delete) → AllByRecursion P (map entry_of ds) → All (λ (e : Delete). P (entry_of e)) ds
  of_part ds h = All-from_recursion (λ (e : Delete). P (entry_of e)) ds (of_files P ds h)

  pub first_shelf : All (λ (e : Delete). P (entry_of e)) a
  first_shelf = of_part a (front_of P (map entry_of a) (map entry_of b) two)

  pub second_shelf : All (λ (e : Delete). P (entry_of e)) b
  second_shelf = of_part b (back_of P (map entry_of a) (map entry_of b) two)

  pub third_shelf : All (λ (e : Delete). P (entry_of e)) c
  third_shelf = of_part c (back_of P (map entry_of a ++ map entry_of b) (map entry_of c) three)

  pub fourth_shelf : All (λ (e : Delete). P (entry_of e)) d
  fourth_shelf = of_part d (back_of P (map entry_of a ++ map entry_of b ++ map entry_of c) (map entry_of d) every)
