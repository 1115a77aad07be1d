-- Lemmas on filters and on lists whose elements all pass.
use Rattle.std.proofs.Common.{◌≡◌, List, [], ◌∷◌, ◌++◌, refl, ap, Bool, true, false, filter, cond, ◌&&◌, ◌||◌, ◌⊎◌, inl}
use Rattle.std.proofs.Common.{inr}
use Rattle.std.specs.List.{flat_map, list_any, AllByRecursion}
use Rattle.std.proofs.lemmas.List.Elements.{filter-append}
use Rattle.contract_words.specs.Sorting.{put, sorted}

pub or_false : (a b : Bool) → (a || b) ≡ false → (a ≡ false) × (b ≡ false)
or_false true b h = cc
or_false false b h = (refl, h)

pub or_true : (a b : Bool) → (a || b) ≡ true → (a ≡ true) ⊎ (b ≡ true)
or_true true b h = inl refl
or_true false b h = inr h

pub and_true : (a b : Bool) → (a && b) ≡ true → (a ≡ true) × (b ≡ true)
and_true true b h = (refl, h)
and_true false b h = cc

pub all_unit : {X : Type 0} (xs : List X) → AllByRecursion (λ _. Unit {0}) xs
all_unit [] = tt
all_unit (x ∷ xs) = (tt, all_unit xs)

pub all_implies : {X : Type 0} (P Q : X → Type 0) (xs : List X) → ((x : X) → P x → Q x) → AllByRecursion P xs
    → AllByRecursion Q xs
all_implies P Q [] f all = tt
all_implies P Q (x ∷ xs) f all = (f x all.0, all_implies P Q xs f all.1)

-- of what S holds, what passes q passes k
module _ {X : Type 0} (S : X → Type 0) (q k : X → Bool) (implied : (x : X) → S x → q x ≡ true → k x ≡ true) where
  pub filter_kept : (xs : List X) → AllByRecursion S xs → filter q xs ≡ filter q (filter k xs)
  filter_kept [] all = refl
  filter_kept (x ∷ xs) all =
      let P : (b : Bool) → q x ≡ b → cond b (x ∷ filter q xs) (filter q xs) ≡ filter q (filter k (x ∷ xs)) =
      λ b. elim b as (λ v. q x ≡ v → cond v (x ∷ filter q xs) (filter q xs) ≡ filter q (filter k (x ∷ xs))) [
        | true ↦ λ h. rw (implied x all.0 h, h) (ap (λ ys. x ∷ ys) (filter_kept xs all.1))
        | false ↦ λ h. elim (k x) as (λ v. filter q xs ≡ filter q (cond v (x ∷ filter k xs) (filter k xs)))
            [ true ↦ rw h (filter_kept xs all.1) | false ↦ filter_kept xs all.1 ]
      ] in
      P (q x) refl

  pub filter_none : (xs : List X) → AllByRecursion S xs → list_any k xs ≡ false → filter q xs ≡ []
  filter_none [] all h = refl
  filter_none (x ∷ xs) all h =
      let P : (b : Bool) → q x ≡ b → cond b (x ∷ filter q xs) (filter q xs) ≡ [] =
      λ b. elim b as (λ v. q x ≡ v → cond v (x ∷ filter q xs) (filter q xs) ≡ []) [
        | true ↦ λ t. let yes = implied x all.0 t in let no = (or_false (k x) (list_any k xs) h).0 in cc
        | false ↦ λ f. filter_none xs all.1 (or_false (k x) (list_any k xs) h).1
      ] in
      P (q x) refl

  pub filter_rows : {R : Type 0} (live : R → List X) (wants : R → Bool) → ((r : R) → AllByRecursion S (live r))
      → (rs : List R) → AllByRecursion (λ r. list_any k (live r) ≡ true → wants r ≡ true) rs →
      filter q (flat_map live rs) ≡ filter q (flat_map (λ r. filter k (live r)) (filter wants rs))
  filter_rows live wants each [] covered = refl
  filter_rows {R} live wants each (r ∷ rs) covered =
      let P : (b : Bool) → wants r ≡ b → filter q (live r ++ flat_map live rs) ≡ filter q
      (flat_map (λ (w : R). filter k (live w)) (cond b (r ∷ filter wants rs) (filter wants rs))) =
      λ b. elim b as (λ v. wants r ≡ v → filter q (live r ++ flat_map live rs) ≡ filter q
      (flat_map (λ (w : R). filter k (live w)) (cond v (r ∷ filter wants rs) (filter wants rs)))) [
        | true ↦ λ h. rw (
          filter-append q (live r) (flat_map live rs),
          filter-append q (filter k (live r)),
          ←
              filter_kept (live r) (each r),
          filter_rows live wants each rs covered.1,
        ) refl
        | false ↦ λ h.
            let N : (v : Bool) → list_any k (live r) ≡ v → filter q (live r) ≡ [] =
            λ v. elim v as (λ u. list_any k (live r) ≡ u → filter q (live r) ≡ []) [
              | true ↦ λ t. let yes =
                  covered.0 t in cc
              | false ↦ λ f. filter_none (live r) (each r) f
            ] in
            rw (filter-append q (live r) (flat_map live rs), N (list_any k (live r)) refl) (filter_rows live wants each
            rs covered.1)
      ] in
      P (wants r) refl

-- what passes p, and of that what passes q
pub filter_twice : {X : Type 0} (p q : X → Bool) (xs : List X) → filter q (filter p xs) ≡ filter (λ x. p x && q x) xs
filter_twice p q [] = refl
filter_twice {X} p q (x ∷ xs) =
    elim (p x) as (λ v. filter q (cond v (x ∷ filter p xs) (filter p xs)) ≡ cond (v && q x)
    (x ∷ filter (λ (y : X). p y && q y) xs) (filter (λ (y : X). p y && q y) xs)) [
      | true ↦ elim (q x) as (λ v. cond v (x ∷ filter q (filter p xs)) (filter q (filter p xs)) ≡ cond v
          (x ∷ filter (λ (y : X). p y && q y) xs) (filter (λ (y : X). p y && q y) xs)) [
            | true ↦ ap (λ ys. x ∷ ys) (filter_twice p q xs)
            | false ↦ filter_twice p q xs
          ]
      | false ↦ filter_twice p q xs
    ]

pub append_all : {X : Type 0} (P : X → Type 0) (xs ys : List X) → AllByRecursion P xs → AllByRecursion P ys
    → AllByRecursion P (xs ++ ys)
append_all P [] ys h k = k
append_all P (x ∷ xs) ys h k = (h.0, append_all P xs ys h.1 k)

pub passes : {X : Type 0} (k : X → Bool) (xs : List X) → AllByRecursion (λ x. k x ≡ true) (filter k xs)
passes k [] = tt
passes {X} k (x ∷ xs) =
    let P : (b : Bool) → k x ≡ b → AllByRecursion (λ (y : X). k y ≡ true) (cond b (x ∷ filter k xs) (filter k xs)) =
    λ b. elim b as (λ v. k x ≡ v → AllByRecursion (λ (y : X). k y ≡ true) (cond v (x ∷ filter k xs) (filter k xs)))
    [ true ↦ λ h. (h, passes k xs) | false ↦ λ h. passes k xs ] in
    P (k x) refl

pub filter_all : {X : Type 0} (k : X → Bool) (xs : List X) → AllByRecursion (λ x. k x ≡ true) xs → filter k xs ≡ xs
filter_all k [] h = refl
filter_all k (x ∷ xs) h = rw h.0 (ap (λ ys. x ∷ ys) (filter_all k xs h.1))

-- what holds of each element holds of each when they are sorted
all_put : {X : Type 0} (lt : X → X → Bool) (P : X → Type 0) (x : X) (ys : List X) → P x → AllByRecursion P ys
    → AllByRecursion P (put lt x ys)
all_put lt P x [] p all = (p, all)
all_put lt P x (y ∷ ys) p all = elim (lt y x) as (λ b. AllByRecursion P (cond b (y ∷ put lt x ys) (x ∷ y ∷ ys)))
    [ true ↦ (all.0, all_put lt P x ys p all.1) | false ↦ (p, all) ]

pub all_sorted : {X : Type 0} (lt : X → X → Bool) (P : X → Type 0) (xs : List X) → AllByRecursion P xs
    → AllByRecursion P (sorted lt xs)
all_sorted lt P [] all = tt
all_sorted lt P (x ∷ xs) all = all_put lt P x (sorted lt xs) all.0 (all_sorted lt P xs all.1)
