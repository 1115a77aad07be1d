-- The least of paths and of ids is among them, and none is before it.
use Rattle.std.proofs.Common.{◌≡◌, ◌⊎◌, inl, inr, ℕ, ℤ, Bool, true, false, cond, List, [], ◌∷◌, fold, refl, sym, ap}
use Rattle.std.proofs.Common.{◌∙◌, subst}
use Rattle.std.specs.Prelude.{Option, None, Some}
use Rattle.std.specs.Cmp.{IsStrictWeakOrder}
use Rattle.std.specs.List.{Contains}
use Rattle.std.proofs.lemmas.Cmp.{int_cmp_total, nat_list_cmp_total}
use Rattle.std.proofs.lemmas.List.Sorted.{ranks_by}
use Rattle.contract_words.proofs.Sorted.{irreflexive}
use Rattle.ice_manifest_reading.proofs.Sets.{cases_of, here, later, nowhere}
use Rattle.ice_catalog_versions.specs.Groups.{id_before}
use Rattle.ice_catalog_versions.specs.Refusals.{least_id, least_path, lesser_id, lesser_path, path_before}

pub path_ranks : IsStrictWeakOrder path_before
path_ranks = ranks_by nat_list_cmp_total (λ (path : List ℕ). path)

id_ranks : IsStrictWeakOrder id_before
id_ranks = ranks_by int_cmp_total (λ (id : ℤ). id)

module _ {X : Type 0} (before : X → X → Bool) (o : IsStrictWeakOrder before) (lesser : Option X → X → Option X)
    (first : (x : X) → lesser None x ≡ Some x)
    (chosen : (y x : X) → lesser (Some y) x ≡ cond (before x y) (Some x) (Some y)) where
  -- p is y or among these, and none of them is before it
  abbrev IsLeastOf : X → List X → X → Type 0
  IsLeastOf y xs p = ((y ≡ p) ⊎ Contains xs p) × (before y p ≡ false)
      × ((q : X) → Contains xs q → before q p ≡ false)

  front : (x y p : X) (xs : List X) → (x ≡ p) ⊎ Contains xs p → (y ≡ p) ⊎ Contains (x ∷ xs) p
  front x y p xs (inl e) = inr (here x xs p e)
  front x y p xs (inr i) = inr (later x xs p i)

  behind : (x y p : X) (xs : List X) → (y ≡ p) ⊎ Contains xs p → (y ≡ p) ⊎ Contains (x ∷ xs) p
  behind x y p xs (inl e) = inl e
  behind x y p xs (inr i) = inr (later x xs p i)

  each : (x p : X) (xs : List X) → before x p ≡ false → ((q : X) → Contains xs q → before q p ≡ false)
      → (q : X) → Contains (x ∷ xs) q → before q p ≡ false
  each x p xs h all q i = elim (cases_of x xs q i) as (λ _. before q p ≡ false)
      [ inl e ↦ subst (λ z. before z p ≡ false) e h | inr m ↦ all q m ]

  step : (x y p : X) (xs : List X) (b : Bool) → before x y ≡ b
      → (fold lesser (Some x) xs ≡ Some p → IsLeastOf x xs p)
      → (fold lesser (Some y) xs ≡ Some p → IsLeastOf y xs p)
      → fold lesser (cond b (Some x) (Some y)) xs ≡ Some p → IsLeastOf y (x ∷ xs) p
  step x y p xs true is one other e =
      let r = one e in
      (front x y p xs r.0, o.chain y x p (o.one_way x y is) r.1, each x p xs r.1 r.2)
  step x y p xs false is one other e =
      let r = other e in
      (behind x y p xs r.0, r.1, each x p xs (o.chain x y p is r.1) r.2)

  least_from : (xs : List X) (y p : X) → fold lesser (Some y) xs ≡ Some p → IsLeastOf y xs p
  least_from [] y p e =
      let same : y ≡ p = cc in
      (inl same, subst (λ z. before y z ≡ false) same (irreflexive before o y), λ q i. absurd (nowhere q i))
  least_from (x ∷ xs) y p e = step x y p xs (before x y) refl (least_from xs x p) (least_from xs y p)
      (ap (λ v. fold lesser v xs) (sym (chosen y x)) ∙ e)

  among : (x p : X) (xs : List X) → (x ≡ p) ⊎ Contains xs p → Contains (x ∷ xs) p
  among x p xs (inl e) = here x xs p e
  among x p xs (inr i) = later x xs p i

  least_of : (xs : List X) (p : X) → fold lesser None xs ≡ Some p
      → Contains xs p × ((q : X) → Contains xs q → before q p ≡ false)
  least_of [] p e = absurd cc
  least_of (x ∷ xs) p e =
      let r = least_from xs x p (ap (λ v. fold lesser v xs) (sym (first x)) ∙ e) in
      (among x p xs r.0, each x p xs r.1 r.2)

pub is_least_path : (paths : List (List ℕ)) (p : List ℕ) → least_path paths ≡ Some p
    → Contains paths p × ((q : List ℕ) → Contains paths q → path_before q p ≡ false)
is_least_path paths p e = least_of path_before path_ranks lesser_path (λ x. refl) (λ y x. refl) paths p e

pub is_least_id : (ids : List ℤ) (p : ℤ) → least_id ids ≡ Some p
    → Contains ids p × ((q : ℤ) → Contains ids q → id_before q p ≡ false)
is_least_id ids p e = least_of id_before id_ranks lesser_id (λ x. refl) (λ y x. refl) ids p e
