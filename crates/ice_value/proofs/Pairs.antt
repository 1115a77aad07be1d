-- Looking up in pairs.
use Rattle.std.proofs.Common.{◌≡◌, ℕ, ℤ, Bool, true, false, List, [], ◌∷◌, map, reverse, Option, Some, None, refl, sym}
use Rattle.std.proofs.Common.{◌∙◌, Bor}
use Rattle.std.specs.Prelude.{find, option_map}
use Rattle.std.specs.Ordering.{int_eq}
use mathlib.Core.List.{reverse_aux}
use Rattle.ice_value.specs.Columns.{ColumnCount, ColumnBound, count_of, bound_of}
use Rattle.ice_value.specs.Pairs.{last_of, counts_said, bounds_said}

found_here : {A B C : Type 0} (f : A → B) (is : B → Bool) (g : B → C) (y : A) (ys : List A) → (b : Bool) → b ≡ is (f y)
    → option_map g (find is (map f ys)) ≡ option_map (λ a. g (f a)) (find (λ a. is (f a)) ys)
    → option_map g (find is (map f (y ∷ ys))) ≡ option_map (λ a. g (f a)) (find (λ a. is (f a)) (y ∷ ys))
found_here {A} {B} {C} f is g y ys true e h = rw (← e) refl
found_here {A} {B} {C} f is g y ys false e h = rw (← e) h

found_in : {A B C : Type 0} (f : A → B) (is : B → Bool) (g : B → C) (ys : List A)
    → option_map g (find is (map f ys)) ≡ option_map (λ a. g (f a)) (find (λ a. is (f a)) ys)
found_in {A} {B} {C} f is g [] = refl
found_in {A} {B} {C} f is g (y ∷ ys) = found_here f is g y ys (is (f y)) refl (found_in f is g ys)

reversed : {A B : Type 0} (f : A → B) (xs ys : List A) → reverse_aux (map f xs) (map f ys) ≡ map f (reverse_aux xs ys)
reversed {A} {B} f [] ys = refl
reversed {A} {B} f (x ∷ xs) ys = reversed f xs (x ∷ ys)

found_last : {A B C : Type 0} (f : A → B) (is : B → Bool) (g : B → C) (xs : List A)
    → option_map g (find is (reverse (map f xs))) ≡ option_map (λ a. g (f a)) (find (λ a. is (f a)) (reverse xs))
found_last {A} {B} {C} f is g xs = rw (reversed f xs []) (found_in f is g (reverse xs))

pub last_count : (column : ℤ) (pairs : List (ℤ × ℤ)) → last_of column pairs ≡ count_of column (counts_said pairs)
last_count column pairs = sym (found_last (λ (p : ℤ × ℤ). record { column = p.0; count = p.1 })
    (λ (c : ColumnCount). int_eq c.column column) (λ c. c.count) pairs)

mapped : (o : Option (ℤ × Bor (List ℕ))) → option_map (λ (p : ℤ × Bor (List ℕ)). p.1.now) o ≡ option_map
    (λ (b : Bor (List ℕ)). b.now) (option_map (λ (p : ℤ × Bor (List ℕ)). p.1) o)
mapped None = refl
mapped (Some p) = refl

pub last_bound : (column : ℤ) (pairs : List (ℤ × Bor (List ℕ)))
    → option_map (λ (b : Bor (List ℕ)). b.now) (last_of column pairs) ≡ bound_of column (bounds_said pairs)
last_bound column pairs = sym (found_last (λ (p : ℤ × Bor (List ℕ)). record { column = p.0; bytes = p.1.now })
    (λ (b : ColumnBound). int_eq b.column column) (λ b. b.bytes) pairs ∙ mapped
    (find (λ (p : ℤ × Bor (List ℕ)). int_eq p.0 column) (reverse pairs)))
