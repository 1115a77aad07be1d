-- An index without delete files.
use Rattle.std.proofs.Common.{◌≡◌, List, [], ◌∷◌, ◌++◌, map, refl}
use Rattle.ice_deletes.specs.declared.index.DeleteIndex.TheInside.{Inside}
use Rattle.ice_deletes.specs.declared.delete.Delete.{Delete}
use Rattle.ice_deletes.specs.Indexes.{entries_in}
use Rattle.ice_deletes.specs.Keys.{entry_of}

first_none : {A : Type 0} (xs ys : List A) → xs ++ ys ≡ [] → xs ≡ []
first_none [] ys none = refl
first_none (x ∷ xs) ys none = absurd cc

rest_none : {A : Type 0} (xs ys : List A) → xs ++ ys ≡ [] → ys ≡ []
rest_none [] ys none = none
rest_none (x ∷ xs) ys none = absurd cc

none_mapped : (ds : List Delete) → map entry_of ds ≡ [] → ds ≡ []
none_mapped [] none = refl
none_mapped (d ∷ ds) none = absurd cc

-- it has none in any group
pub each_none : (i : Inside) → entries_in i ≡ [] → (i.positions.deletes.items ≡ [])
    × (i.referenced.deletes.items ≡ []) × (i.equalities.deletes.items ≡ []) × (i.everywhere.deletes.items ≡ [])
each_none i none =
    let positions = map entry_of i.positions.deletes.items in
    let referenced = map entry_of i.referenced.deletes.items in
    let equalities = map entry_of i.equalities.deletes.items in
    let everywhere = map entry_of i.everywhere.deletes.items in
    let three = first_none (positions ++ referenced ++ equalities) everywhere none in
    let two = first_none (positions ++ referenced) equalities three in (
      none_mapped _ (first_none positions referenced two),
      none_mapped _ (rest_none positions referenced two),
      none_mapped _ (rest_none (positions ++ referenced) equalities three),
      none_mapped _ (rest_none (positions ++ referenced ++ equalities) everywhere none),
    )
