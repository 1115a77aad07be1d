-- Elements of lists, and lists whose elements have rising keys.
use Rattle.std.proofs.Common.{◌≡◌, ◌⊎◌, inl, inr, ℕ, List, [], ◌∷◌, ◌++◌, refl, sym, ap, ◌∙◌, Bool, true, false}
use Rattle.std.proofs.Common.{map, filter, cond, arith, subst}
use Rattle.std.specs.List.{Contains, AllByRecursion, flat_map}
use Rattle.std.specs.List.Sorted.{IsStrictlySortedBy}
use Rattle.std.specs.Cmp.Lexicographic.{slice_cmp}
use Rattle.std.specs.Ordering.{nat_cmp, ordering_reverse}
use Rattle.std.specs.declared.cmp.Ordering.TheVariants.{Less, Greater}
use Rattle.std.proofs.lemmas.Cmp.{nat_list_cmp_total}
use Rattle.std.proofs.lemmas.List.Elements.{Contains-append_left, Contains-append_right, Contains-append_cases}
use Rattle.ice_state.proofs.Elements.{contains_more, contains_at}

-- ---- elements

pub at_head : {X : Type 0} (x : X) (xs : List X) → Contains (x ∷ xs) x
at_head x xs = (0, omega arith, refl)

pub in_none : {X : Type 0} (x : X) → Contains [] x → ⊥
in_none x (k, l, e) = omega (arith, l)

-- of one element more
pub first_or_behind : {X : Type 0} (x y : X) (xs : List X) → Contains (x ∷ xs) y → (x ≡ y) ⊎ Contains xs y
first_or_behind x y xs c = contains_at x y xs c.0 c.1 c.2

pub in_map : {X Y : Type 0} (f : X → Y) (xs : List X) (x : X) → Contains xs x → Contains (map f xs) (f x)
in_map f [] x c = absurd (in_none x c)
in_map f (y ∷ ys) x c = elim (first_or_behind y x ys c) as (λ _. Contains (f y ∷ map f ys) (f x)) [
  | inl e ↦ subst (λ z. Contains (f y ∷ map f ys) (f z)) e (at_head (f y) (map f ys))
  | inr m ↦ contains_more (f y) (f x) (map f ys) (in_map f ys x m)
]

pub from_map : {X Y : Type 0} (f : X → Y) (xs : List X) (y : Y) → Contains (map f xs) y
    → (x : X) × Contains xs x × (f x ≡ y)
from_map f [] y c = absurd (in_none y c)
from_map {X} f (x ∷ xs) y c = elim (first_or_behind (f x) y (map f xs) c) as
    (λ _. (z : X) × Contains (x ∷ xs) z × (f z ≡ y)) [
      | inl e ↦ (x, at_head x xs, e)
      | inr m ↦ (let r = from_map f xs y m in (r.0, contains_more x r.0 xs r.1, r.2))
    ]

pub in_flat : {X Y : Type 0} (f : X → List Y) (xs : List X) (x : X) (y : Y) → Contains xs x → Contains (f x) y
    → Contains (flat_map f xs) y
in_flat f [] x y c d = absurd (in_none x c)
in_flat f (z ∷ zs) x y c d = elim (first_or_behind z x zs c) as (λ _. Contains (f z ++ flat_map f zs) y) [
  | inl e ↦ Contains-append_left (f z) (flat_map f zs) y (subst (λ w. Contains (f w) y) (sym e) d)
  | inr m ↦ Contains-append_right (f z) (flat_map f zs) y (in_flat f zs x y m d)
]

pub from_flat : {X Y : Type 0} (f : X → List Y) (xs : List X) (y : Y) → Contains (flat_map f xs) y
    → (x : X) × Contains xs x × Contains (f x) y
from_flat f [] y c = absurd (in_none y c)
from_flat {X} f (x ∷ xs) y c = elim (Contains-append_cases (f x) (flat_map f xs) y c) as
    (λ _. (z : X) × Contains (x ∷ xs) z × Contains (f z) y) [
      | inl m ↦ (x, at_head x xs, m)
      | inr m ↦ (let r = from_flat f xs y m in (r.0, contains_more x r.0 xs r.1, r.2))
    ]

pub none_in : {X : Type 0} (xs : List X) → ((x : X) → Contains xs x → ⊥) → xs ≡ []
none_in [] h = refl
none_in (x ∷ xs) h = absurd (h x (at_head x xs))

pub all_in : {X : Type 0} (P : X → Type 0) (xs : List X) → ((x : X) → Contains xs x → P x) → AllByRecursion P xs
all_in P [] h = tt
all_in P (x ∷ xs) h = (h x (at_head x xs), all_in P xs (λ y c. h y (contains_more x y xs c)))

pub both_none : {X : Type 0} (xs ys : List X) → xs ++ ys ≡ [] → (xs ≡ []) × (ys ≡ [])
both_none [] ys h = (refl, h)
both_none (x ∷ xs) ys h = cc

-- a list has none, or a first
pub none_or_first : {X : Type 0} (xs : List X) → (xs ≡ []) ⊎ ((x : X) × (ys : List X) × (xs ≡ x ∷ ys))
none_or_first [] = inl refl
none_or_first (x ∷ xs) = inr (x, xs, refl)

-- ---- keys that rise

less_once : (a b : List ℕ) → slice_cmp nat_cmp a b ≡ Less → slice_cmp nat_cmp b a ≡ Less → ⊥
less_once a b h k = let e : Less ≡ Greater = sym h ∙ nat_list_cmp_total.antisymm a b ∙ ap ordering_reverse k in cc

module _ {X : Type 0} (key : X → List ℕ) where
  abbrev pub Rise : List X → Type 0
  Rise xs = IsStrictlySortedBy (slice_cmp nat_cmp) (map key xs)

  pub rise_more : (x : X) (xs : List X) → AllByRecursion (λ q. slice_cmp nat_cmp (key x) q ≡ Less) (map key xs)
      → Rise xs → Rise (x ∷ xs)
  unfolding IsStrictlySortedBy
  rise_more x xs all r = (all, r)

  pub rise_none : Rise []
  unfolding IsStrictlySortedBy
  rise_none = tt

  pub head_less : (x : X) (xs : List X) → Rise (x ∷ xs)
      → AllByRecursion (λ q. slice_cmp nat_cmp (key x) q ≡ Less) (map key xs)
  unfolding IsStrictlySortedBy
  head_less x xs r = r.0

  pub rise_less : (x : X) (xs : List X) → Rise (x ∷ xs) → Rise xs
  unfolding IsStrictlySortedBy
  rise_less x xs r = r.1

  all_filter : (P : List ℕ → Type 0) (t : X → Bool) (xs : List X) → AllByRecursion P (map key xs)
      → AllByRecursion P (map key (filter t xs))
  all_filter P t [] all = tt
  all_filter P t (x ∷ xs) all = elim (t x) as (λ v. AllByRecursion P
      (map key (cond v (x ∷ filter t xs) (filter t xs)))) [
        | true ↦ (all.0, all_filter P t xs all.1)
        | false ↦ all_filter P t xs all.1
      ]

  pub rise_filter : (t : X → Bool) (xs : List X) → Rise xs → Rise (filter t xs)
  rise_filter t [] r = r
  rise_filter t (x ∷ xs) r = elim (t x) as (λ v. Rise (cond v (x ∷ filter t xs) (filter t xs))) [
    | true ↦ rise_more x (filter t xs) (all_filter _ t xs (head_less x xs r)) (rise_filter t xs (rise_less x xs r))
    | false ↦ rise_filter t xs (rise_less x xs r)
  ]

  all_keys : (P : List ℕ → Type 0) (xs : List X) (y : X) → AllByRecursion P (map key xs) → Contains xs y → P (key y)
  all_keys P [] y all c = absurd (in_none y c)
  all_keys P (x ∷ xs) y all c = elim (first_or_behind x y xs c) as (λ _. P (key y)) [
    | inl e ↦ subst (λ z. P (key z)) e all.0
    | inr m ↦ all_keys P xs y all.1 m
  ]

  head_is_less : (x : X) (xs : List X) (y : X) → Rise (x ∷ xs) → Contains xs y → slice_cmp nat_cmp (key x)
      (key y) ≡ Less
  head_is_less x xs y r c = all_keys (λ q. slice_cmp nat_cmp (key x) q ≡ Less) xs y (head_less x xs r) c

  heads_are_one : (x y : X) (xs ys : List X) → Rise (x ∷ xs) → Rise (y ∷ ys)
      → Contains (y ∷ ys) x → Contains (x ∷ xs) y → x ≡ y
  heads_are_one x y xs ys r s c d = elim (first_or_behind y x ys c) as (λ _. x ≡ y) [
    | inl e ↦ sym e
    | inr m ↦ elim (first_or_behind x y xs d) as (λ _. x ≡ y) [
      | inl e ↦ e
      | inr n ↦ absurd (less_once (key x) (key y) (head_is_less x xs y r n) (head_is_less y ys x s m))
    ]
  ]

  not_behind : (x : X) (xs : List X) → Rise (x ∷ xs) → Contains xs x → ⊥
  not_behind x xs r c = less_once (key x) (key x) (head_is_less x xs x r c) (head_is_less x xs x r c)

  behind : (x y : X) (xs ys : List X) → x ≡ y → Rise (x ∷ xs) → ((z : X) → Contains (x ∷ xs) z → Contains (y ∷ ys) z)
      → (z : X) → Contains xs z → Contains ys z
  behind x y xs ys e r h z c = elim (first_or_behind y z ys (h z (contains_more x z xs c))) as (λ _. Contains ys z) [
    | inl k ↦ absurd (not_behind x xs r (subst (λ w. Contains xs w) (sym (e ∙ k)) c))
    | inr m ↦ m
  ]

  -- two lists whose keys rise and that have the same elements are one
  pub one_list : (xs ys : List X) → Rise xs → Rise ys → ((z : X) → Contains xs z → Contains ys z)
      → ((z : X) → Contains ys z → Contains xs z) → xs ≡ ys
  one_list [] [] r s h k = refl
  one_list [] (y ∷ ys) r s h k = absurd (in_none y (k y (at_head y ys)))
  one_list (x ∷ xs) [] r s h k = absurd (in_none x (h x (at_head x xs)))
  one_list (x ∷ xs) (y ∷ ys) r s h k =
      let e : x ≡ y = heads_are_one x y xs ys r s (h x (at_head x xs)) (k y (at_head y ys)) in
      let t : xs ≡ ys = one_list xs ys (rise_less x xs r) (rise_less y ys s) (behind x y xs ys e r h)
      (behind y x ys xs (sym e) s k) in
      ap (λ z. z ∷ xs) e ∙ ap (λ zs. y ∷ zs) t
