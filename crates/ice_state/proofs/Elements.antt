-- Elements of lists that are filtered, mapped and sorted.
use Rattle.std.proofs.Common.{◌≡◌, ◌<◌, ℕ, zero, suc, List, [], ◌∷◌, refl, sym, ap, ◌∙◌, Bool, true, false, map, filter}
use Rattle.std.proofs.Common.{cond, ◌⊎◌, inl, inr, length, slice_index_or, get_or, arith, subst, add-one}
use Rattle.std.specs.List.{Contains, AllByRecursion}
use Rattle.std.specs.List.Sorted.{IsSortedBy}
use Rattle.std.specs.Cmp.{IsStrictWeakOrder}
use Rattle.contract_words.specs.Sorting.{put, sorted}
use Rattle.contract_words.proofs.Sorted.{Rises}

pub contains_more : {X : Type 0} (x y : X) (xs : List X) → Contains xs y → Contains (x ∷ xs) y
contains_more x y xs (k, l, e) = (suc k, omega arith, e)

pub contains_at : {X : Type 0} (x y : X) (xs : List X) (k : ℕ) → k < length (x ∷ xs) → slice_index_or (x ∷ xs) k y ≡ y
    → (x ≡ y) ⊎ Contains xs y
contains_at x y xs zero l e = inl e
contains_at x y xs (suc k) l e = inr (k, omega arith, e)

pub filtered : {X : Type 0} (p : X → Bool) (xs : List X) (y : X) → Contains (filter p xs) y
    → Contains xs y × (p y ≡ true)
filtered p [] y (k, l, e) = absurd (omega arith)
filtered {X} p (x ∷ xs) y h =
    let P : (b : Bool) → p x ≡ b → Contains (cond b (x ∷ filter p xs) (filter p xs)) y
    → Contains (x ∷ xs) y × (p y ≡ true) =
    λ b. elim b as (λ v. p x ≡ v → Contains (cond v (x ∷ filter p xs) (filter p xs)) y
    → Contains (x ∷ xs) y × (p y ≡ true)) [
      | true ↦ λ t c.
          elim (contains_at x y (filter p xs) c.0 c.1 c.2) as (λ _. Contains (x ∷ xs) y × (p y ≡ true)) [
            | inl e ↦ ((0, omega arith, e), sym (ap p e) ∙ t)
            | inr m ↦ (let r = filtered p xs y m in (contains_more x y xs r.0, r.1))
          ]
      | false ↦ λ f c. (let r = filtered p xs y c in (contains_more x y xs r.0, r.1))
    ] in
    P (p x) refl h

pub refiltered : {X : Type 0} (p : X → Bool) (xs : List X) (y : X) → Contains xs y → p y ≡ true
    → Contains (filter p xs) y
refiltered p [] y (k, l, e) t = absurd (omega arith)
refiltered {X} p (x ∷ xs) y c t =
    let P : (b : Bool) → p x ≡ b → Contains (cond b (x ∷ filter p xs) (filter p xs)) y =
    λ b. elim b as (λ v. p x ≡ v → Contains (cond v (x ∷ filter p xs) (filter p xs)) y) [
      | true ↦ λ k.
          elim (contains_at x y xs c.0 c.1 c.2) as (λ _. Contains (x ∷ filter p xs) y) [
            | inl e ↦ (0, omega arith, e)
            | inr m ↦ contains_more x y (filter p xs) (refiltered p xs y m t)
          ]
      | false ↦ λ k.
          elim (contains_at x y xs c.0 c.1 c.2) as (λ _. Contains (filter p xs) y) [
            | inl e ↦ (let no : true ≡ false = sym t ∙ sym (ap p e) ∙ k in cc)
            | inr m ↦ refiltered p xs y m t
          ]
    ] in
    P (p x) refl

pub mapped : {X Y : Type 0} (f : X → Y) (xs : List X) (y : Y) → Contains (map f xs) y → (x : X) × (f x ≡ y)
mapped f [] y (k, l, e) = absurd (omega arith)
mapped f (x ∷ xs) y c = elim (contains_at (f x) y (map f xs) c.0 c.1 c.2) [ inl e ↦ (x, e) | inr m ↦ mapped f xs y m ]

-- what holds of each element holds of this one
pub all_at : {X : Type 0} (P : X → Type 0) (xs : List X) (y : X) → AllByRecursion P xs → Contains xs y → P y
all_at P [] y all (k, l, e) = absurd (omega arith)
all_at P (x ∷ xs) y all c = elim (contains_at x y xs c.0 c.1 c.2) as (λ _. P y) [
  | inl e ↦ subst P e all.0
  | inr m ↦
      all_at P xs y all.1 m
]

-- sorting keeps the elements
put_contains : {X : Type 0} (lt : X → X → Bool) (x : X) (ys : List X) (y : X) → Contains (put lt x ys) y
    → (x ≡ y) ⊎ Contains ys y
put_contains lt x [] y c = contains_at x y [] c.0 c.1 c.2
put_contains {X} lt x (z ∷ zs) y c =
    let P : (b : Bool) → Contains (cond b (z ∷ put lt x zs) (x ∷ z ∷ zs)) y → (x ≡ y) ⊎ Contains (z ∷ zs) y =
    λ b. elim b as (λ v. Contains (cond v (z ∷ put lt x zs) (x ∷ z ∷ zs)) y → (x ≡ y) ⊎ Contains (z ∷ zs) y) [
      | true ↦ λ k.
          elim (contains_at z y (put lt x zs) k.0 k.1 k.2) as (λ _. (x ≡ y) ⊎ Contains (z ∷ zs) y) [
            | inl e ↦ inr (0, omega arith, e)
            | inr m ↦ elim (put_contains lt x zs y m) as (λ _. (x ≡ y) ⊎ Contains (z ∷ zs) y)
                [ inl e ↦ inl e | inr n ↦ inr (contains_more z y zs n) ]
          ]
      | false ↦ λ k. contains_at x y (z ∷ zs) k.0 k.1 k.2
    ] in
    P (lt z x) c

contains_put : {X : Type 0} (lt : X → X → Bool) (x : X) (ys : List X) (y : X) → (x ≡ y) ⊎ Contains ys y
    → Contains (put lt x ys) y
contains_put lt x [] y h = elim h as (λ _. Contains (x ∷ []) y) [
  | inl e ↦ (0, omega arith, e)
  | inr (k, l, e) ↦ absurd
      (omega arith)
]
contains_put {X} lt x (z ∷ zs) y h =
    elim (lt z x) as (λ v. Contains (cond v (z ∷ put lt x zs) (x ∷ z ∷ zs)) y) [
      | true ↦
          elim h as (λ _. Contains (z ∷ put lt x zs) y) [
            | inl e ↦ contains_more z y (put lt x zs) (contains_put lt x zs y (inl e))
            | inr m ↦
                elim (contains_at z y zs m.0 m.1 m.2) as (λ _. Contains (z ∷ put lt x zs) y) [
                  | inl e ↦ (0, omega arith, e)
                  | inr n ↦ contains_more z y (put lt x zs) (contains_put lt x zs y (inr n))
                ]
          ]
      | false ↦ elim h as (λ _. Contains (x ∷ z ∷ zs) y) [
        | inl e ↦ (0, omega arith, e)
        | inr m ↦ contains_more x y
            (z ∷ zs) m
      ]
    ]

pub sorted_contains : {X : Type 0} (lt : X → X → Bool) (xs : List X) (y : X) → Contains (sorted lt xs) y → Contains xs y
sorted_contains lt [] y c = c
sorted_contains lt (x ∷ xs) y c = elim (put_contains lt x (sorted lt xs) y c) as (λ _. Contains (x ∷ xs) y)
    [ inl e ↦ (0, omega arith, e) | inr m ↦ contains_more x y xs (sorted_contains lt xs y m) ]

pub contains_sorted : {X : Type 0} (lt : X → X → Bool) (xs : List X) (y : X) → Contains xs y → Contains (sorted lt xs) y
contains_sorted lt [] y c = c
contains_sorted lt (x ∷ xs) y c = contains_put lt x (sorted lt xs) y (elim (contains_at x y xs c.0 c.1 c.2) as
    (λ _. (x ≡ y) ⊎ Contains (sorted lt xs) y) [ inl e ↦ inl e | inr m ↦ inr (contains_sorted lt xs y m) ])

-- of a list that rises, neighbours rise
risen : {X : Type 0} (lt : X → X → Bool) (o : IsStrictWeakOrder lt) (xs : List X) → Rises lt o xs → (k : ℕ) (d : X)
    → suc k < length xs → lt (get_or xs (suc k) d) (get_or xs k d) ≡ false
risen lt o [] r k d l = absurd (omega arith)
risen lt o (x ∷ []) r k d l = absurd (omega arith)
risen lt o (x ∷ y ∷ ys) r zero d l = r.0.0
risen lt o (x ∷ y ∷ ys) r (suc k) d l = risen lt o (y ∷ ys) r.1 k d (omega arith)

pub sorted_from_rises : {X : Type 0} (lt : X → X → Bool) (o : IsStrictWeakOrder lt) (xs : List X) → Rises lt o xs
    → IsSortedBy lt xs
sorted_from_rises lt o xs r = λ k d low high. rw add-one (risen lt o xs r k d (omega arith))
