-- Elements of lists that are made of others.
use Rattle.std.proofs.Common.{◌≡◌, ◌⊎◌, inl, inr, List, [], ◌∷◌, ◌++◌, refl, sym, arith, map, subst}
use Rattle.std.specs.List.{Contains, flat_map}
use Rattle.std.proofs.lemmas.List.Elements.{Contains-append_left, Contains-append_right, Contains-append_cases}
use Rattle.ice_state.proofs.Elements.{contains_more, contains_at}

pub at_head : {X : Type 0} (x : X) (xs : List X) → Contains (x ∷ xs) x
at_head x xs = (0, omega arith, refl)

pub in_none : {X : Type 0} (x : X) → Contains [] x → ⊥
in_none x (k, l, e) = omega (arith, l)

-- of one element more
pub first_or_behind : {X : Type 0} (x y : X) (xs : List X) → Contains (x ∷ xs) y → (x ≡ y) ⊎ Contains xs y
first_or_behind x y xs c = contains_at x y xs c.0 c.1 c.2

pub in_map : {X Y : Type 0} (f : X → Y) (xs : List X) (x : X) → Contains xs x → Contains (map f xs) (f x)
in_map f [] x c = absurd (in_none x c)
in_map f (y ∷ ys) x c = elim (first_or_behind y x ys c) as (λ _. Contains (f y ∷ map f ys) (f x)) [
  | inl e ↦ subst (λ z. Contains (f y ∷ map f ys) (f z)) e (at_head (f y) (map f ys))
  | inr m ↦ contains_more (f y) (f x) (map f ys) (in_map f ys x m)
]

pub from_map : {X Y : Type 0} (f : X → Y) (xs : List X) (y : Y) → Contains (map f xs) y
    → (x : X) × Contains xs x × (f x ≡ y)
from_map f [] y c = absurd (in_none y c)
from_map {X} f (x ∷ xs) y c = elim (first_or_behind (f x) y (map f xs) c) as
    (λ _. (z : X) × Contains (x ∷ xs) z × (f z ≡ y)) [
      | inl e ↦ (x, at_head x xs, e)
      | inr m ↦ (let r = from_map f xs y m in (r.0, contains_more x r.0 xs r.1, r.2))
    ]

pub in_flat : {X Y : Type 0} (f : X → List Y) (xs : List X) (x : X) (y : Y) → Contains xs x → Contains (f x) y
    → Contains (flat_map f xs) y
in_flat f [] x y c d = absurd (in_none x c)
in_flat f (z ∷ zs) x y c d = elim (first_or_behind z x zs c) as (λ _. Contains (f z ++ flat_map f zs) y) [
  | inl e ↦ Contains-append_left (f z) (flat_map f zs) y (subst (λ w. Contains (f w) y) (sym e) d)
  | inr m ↦ Contains-append_right (f z) (flat_map f zs) y (in_flat f zs x y m d)
]

pub from_flat : {X Y : Type 0} (f : X → List Y) (xs : List X) (y : Y) → Contains (flat_map f xs) y
    → (x : X) × Contains xs x × Contains (f x) y
from_flat f [] y c = absurd (in_none y c)
from_flat {X} f (x ∷ xs) y c = elim (Contains-append_cases (f x) (flat_map f xs) y c) as
    (λ _. (z : X) × Contains (x ∷ xs) z × Contains (f z) y) [
      | inl m ↦ (x, at_head x xs, m)
      | inr m ↦ (let r = from_flat f xs y m in (r.0, contains_more x r.0 xs r.1, r.2))
    ]
