-- What an index gives, by the ranks of its numbers.
use Rattle.std.proofs.Common.{◌≡◌, ◌<◌, ℕ, Bool, true, false, ◌&&◌, List, [], ◌∷◌, ◌++◌, length, map, filter, cond}
use Rattle.std.proofs.Common.{refl, sym}
use Rattle.std.proofs.Common.{ap, subst, slice_index}
use Rattle.std.specs.List.{AllByRecursion}
use Rattle.std.specs.List.Sorted.{IsPermutation}
use Rattle.std.proofs.lemmas.List.{map-append}
use Rattle.std.proofs.lemmas.List.Elements.{All-map, All-filter, All-from_recursion, recursion_from_All}
use Rattle.std.proofs.lemmas.List.Sorted.{All-permutation, IsPermutation-map}
use Rattle.ice_value.specs.Applying.{DataKey, DeleteKey, applies}
use Rattle.ice_value.specs.declared.file_content.FileContent.{FileContent}
use Rattle.ice_deletes.specs.Found.{holds, numbers_where}
use Rattle.ice_deletes.specs.Unions.{renumbered, AreBelow}
use Rattle.ice_state.specs.Parts.{numbers_of}
use Rattle.ice_state.specs.PlaceLists.{places_at, AreRanked}

where_renumbered : (ranks : List ℕ) (p : DeleteKey → Bool) (es : List (ℕ × DeleteKey))
    → numbers_where p (renumbered ranks es) ≡ places_at ranks (numbers_where p es)
where_renumbered ranks p [] = refl
where_renumbered ranks p (e ∷ es) =
    let rest = where_renumbered ranks p es in
    elim (p e.1) as (λ b. map (λ (x : ℕ × DeleteKey). x.0) (cond b ((slice_index ranks e.0, e.1)
    ∷ filter (λ x. p x.1) (renumbered ranks es)) (filter (λ x. p x.1) (renumbered ranks es)))
    ≡ places_at ranks (map (λ (x : ℕ × DeleteKey). x.0)
    (cond b (e ∷ filter (λ x. p x.1) es) (filter (λ x. p x.1) es)))) [
      | true ↦ ap (λ ns. slice_index ranks e.0 ∷ ns) rest
      | false ↦ rest
    ]

front : (P : ℕ → Type 0) (xs ys : List ℕ) → AllByRecursion P (xs ++ ys) → AllByRecursion P xs
front P [] ys all = tt
front P (x ∷ xs) ys all = (all.0, front P xs ys all.1)

back : (P : ℕ → Type 0) (xs ys : List ℕ) → AllByRecursion P (xs ++ ys) → AllByRecursion P ys
back P [] ys all = all
back P (x ∷ xs) ys all = back P xs ys all.1

module _ (content : FileContent) (ranks : List ℕ) (index : List (ℕ × DeleteKey)) (x : DataKey) (some others : List ℕ)
    (found : IsPermutation (numbers_of content index x) (some ++ others)) where
  abbrev fits : DeleteKey → Bool
  fits d = holds content d && applies x d

  -- their places
  pub ranked_found : IsPermutation (numbers_of content (renumbered ranks index) x)
      (places_at ranks some ++ places_at ranks others)
  ranked_found =
      let P : List ℕ → Type 0 = λ ns. IsPermutation ns (places_at ranks some ++ places_at ranks others) in
      let Q : List ℕ → Type 0 = λ ns. IsPermutation (places_at ranks (numbers_of content index x)) ns in
      subst P (sym (where_renumbered ranks fits index))
      (subst Q (map-append (slice_index ranks) some others)
      (IsPermutation-map (slice_index ranks) (numbers_of content index x) (some ++ others) found))

  all_ranked : AreBelow (length ranks) index → AreRanked ranks (some ++ others)
  all_ranked below = All-permutation (λ n. n < length ranks) (numbers_of content index x) (some ++ others) found
      (All-map (λ n. n < length ranks) (λ (e : ℕ × DeleteKey). e.0) (filter (λ e. fits e.1) index)
      (All-filter (λ e. fits e.1) (λ e. e.0 < length ranks) index below))

  pub first_ranked : AreBelow (length ranks) index → AreRanked ranks some
  first_ranked below =
      let P : ℕ → Type 0 = λ n. n < length ranks in
      All-from_recursion P some (front P some others (recursion_from_All P (some ++ others) (all_ranked below)))

  pub others_ranked : AreBelow (length ranks) index → AreRanked ranks others
  others_ranked below =
      let P : ℕ → Type 0 = λ n. n < length ranks in
      All-from_recursion P others (back P some others (recursion_from_All P (some ++ others) (all_ranked below)))
