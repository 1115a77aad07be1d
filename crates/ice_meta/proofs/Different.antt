-- Numbers none of which comes again are different.
use Rattle.std.proofs.Common.{◌≡◌, Bool, true, false, ◌||◌, List, [], ◌∷◌, Some, None, refl}
use Rattle.std.specs.Prelude.{ℤ}
use Rattle.std.specs.List.{list_any, AllByRecursion, IsDistinct}
use Rattle.std.specs.Ordering.{int_eq}
use Rattle.ice_meta.specs.Reading.{again}

none_passes : {A : Type 0} (test : A → Bool) (xs : List A) → list_any test xs ≡ false
    → AllByRecursion (λ y. test y ≡ false) xs
none_passes test [] none = tt
none_passes test (x ∷ xs) none = here (test x) refl none (none_passes test xs)
  where
    here : (b : Bool) → test x ≡ b → (b || list_any test xs) ≡ false
        → (list_any test xs ≡ false → AllByRecursion (λ y. test y ≡ false) xs)
        → AllByRecursion (λ y. test y ≡ false) (x ∷ xs)
    here true e k later = absurd cc
    here false e k later = (e, later k)

pub distinct : (ids : List ℤ) → again ids ≡ None → IsDistinct int_eq ids
unfolding IsDistinct
distinct [] none = tt
distinct (x ∷ xs) none = here (list_any (int_eq x) xs) refl (distinct xs)
  where
    here : (b : Bool) → list_any (int_eq x) xs ≡ b → (again xs ≡ None → IsDistinct int_eq xs)
        → IsDistinct int_eq (x ∷ xs)
    here true e later = let k : Some x ≡ None = rw e at none in absurd cc
    here false e later = (none_passes (int_eq x) xs e, later (rw e at none))
