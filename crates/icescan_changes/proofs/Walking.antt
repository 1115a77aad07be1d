-- The walk over two lists, from any places on.
use Rattle.std.proofs.Common.{◌≡◌, ◌≤◌, ◌<◌, ◌+◌, ◌-◌, ◌⊎◌, ℕ, zero, suc, List, [], ◌∷◌, ◌++◌, map, drop, length}
use Rattle.std.proofs.Common.{arith, append_assoc, append-nil, add-one, ap, refl, sym, ◌∙◌, Some, slice_get}
use Rattle.std.proofs.Common.{inl, inr, take}
use Rattle.std.specs.List.{flat_map}
use Rattle.icescan_print.proofs.Sends.{flat_next}
use Rattle.std.proofs.lemmas.Cmp.{nat_list_cmp_total, tied_itself}
use Rattle.std.specs.declared.cmp.Ordering.{Ordering}
use Rattle.std.specs.declared.cmp.Ordering.TheVariants.{Less, Equal, Greater}
use Rattle.icescan_changes.specs.Walks.{by_order, first_told, order, past_earlier, past_later, walked}

-- what a list has from the place of one of its things on
pub drop_at : {X : Type 0} (xs : List X) (i : ℕ) (x : X) → slice_get xs i ≡ Some x → drop i xs ≡ x ∷ drop (suc i) xs
drop_at [] i x h = absurd cc
drop_at (y ∷ ys) zero x h = cc
drop_at (y ∷ ys) (suc i) x h = drop_at ys i x h

pub drop_past : {X : Type 0} (xs : List X) (i : ℕ) → length xs ≤ i → drop i xs ≡ []
drop_past [] zero h = refl
drop_past [] (suc i) h = refl
drop_past (y ∷ ys) zero h = absurd (omega (arith, h))
drop_past (y ∷ ys) (suc i) h = drop_past ys i (omega (arith, h))

module _ {X C : Type 0} (path : X → List ℕ) (removed added : X → C) (both : X → X → List C) where
  abbrev pub walk : List X → List X → List C
  walk xs ys = walked path removed added both xs ys

  nothing_later : (xs : List X) → walk xs [] ≡ map removed xs
  nothing_later [] = refl
  nothing_later (x ∷ xs) = ap (λ (rest : List C). removed x ∷ rest) (nothing_later xs)

  -- where one list ends, the other's things are told as they are
  pub ends : (xs ys : List X) (i j : ℕ) → (length xs ≤ i) ⊎ (length ys ≤ j)
      → walk (drop i xs) (drop j ys) ≡ map removed (drop i xs) ++ map added (drop j ys)
  ends xs ys i j (inl h) = rw (drop_past xs i h) refl
  ends xs ys i j (inr h) = rw (drop_past ys j h, append-nil (map removed (drop i xs))) (nothing_later (drop i xs))

  step_by : (x y : X) (xs ys : List X) (o : Ordering) → o ≡ order path removed added both x y
      → walk (x ∷ xs) (y ∷ ys) ≡ first_told path removed added both x y
      ++ by_order o (walk xs (y ∷ ys)) (walk xs ys) (walk (x ∷ xs) ys)
  step_by x y xs ys o h = rw h refl

  -- the first things of both lists are told, and then the others
  pub next : (xs ys : List X) (i j : ℕ) (x y : X) (o : Ordering) → slice_get xs i ≡ Some x → slice_get ys j ≡ Some y
      → o ≡ order path removed added both x y
      → walk (drop i xs) (drop j ys) ≡ first_told path removed added both x y
      ++ walk (drop (past_earlier o i) xs) (drop (past_later o j) ys)
  next xs ys i j x y Less p q h =
      rw (drop_at xs i x p, drop_at ys j y q, add-one i) (step_by x y (drop (suc i) xs) (drop (suc j) ys) Less h)
  next xs ys i j x y Equal p q h =
      rw (drop_at xs i x p, drop_at ys j y q, add-one i, add-one j)
      (step_by x y (drop (suc i) xs) (drop (suc j) ys) Equal h)
  next xs ys i j x y Greater p q h =
      rw (drop_at xs i x p, drop_at ys j y q, add-one j) (step_by x y (drop (suc i) xs) (drop (suc j) ys) Greater h)

  -- nothing is told of a list and itself, where nothing is told of each thing and itself
  pub none_told : ((x : X) → both x x ≡ []) → (xs : List X) → walk xs xs ≡ []
  none_told none [] = refl
  none_told none (x ∷ xs) = rw (tied_itself nat_list_cmp_total (path x), none x) (none_told none xs)

  -- one step of the walk, after what is told so far
  pub walk_on : (xs ys : List X) (i j : ℕ) (x y : X) (o : Ordering) (done more all : List C)
      → slice_get xs i ≡ Some x → slice_get ys j ≡ Some y → o ≡ order path removed added both x y
      → more ≡ done ++ first_told path removed added both x y → done ++ walk (drop i xs) (drop j ys) ≡ all
      → more ++ walk (drop (past_earlier o i) xs) (drop (past_later o j) ys) ≡ all
  walk_on xs ys i j x y o done more all p q h is so_far =
      rw (is, append_assoc) (rw (next xs ys i j x y o p q h) at so_far)

  -- the rest of either list, where the other one ends
  pub walk_ends : (xs ys : List X) (i j : ℕ) (done more most all : List C) → (length xs ≤ i) ⊎ (length ys ≤ j)
      → more ≡ done ++ map removed (drop i xs) → most ≡ more ++ map added (drop j ys)
      → done ++ walk (drop i xs) (drop j ys) ≡ all → most ≡ all
  walk_ends xs ys i j done more most all ended is was so_far =
      was ∙ ap (λ (l : List C). l ++ map added (drop j ys)) is
      ∙ append_assoc done (map removed (drop i xs)) (map added (drop j ys))
      ∙ ap (λ (l : List C). done ++ l) (sym (ends xs ys i j ended)) ∙ so_far

-- one more thing of a list, after what is told so far
pub tell_more : {X C : Type 0} (f : X → C) (xs : List X) (i : ℕ) (x : X) (done more all : List C)
    → slice_get xs i ≡ Some x → more ≡ done ++ f x ∷ [] → done ++ map f (drop i xs) ≡ all
    → more ++ map f (drop (i + 1) xs) ≡ all
tell_more f xs i x done more all at is so_far =
    rw (is, add-one i, append_assoc) (rw (drop_at xs i x at) at so_far)

pub told_to_end : {X C : Type 0} (f : X → C) (xs : List X) (i : ℕ) (done all : List C) → length xs ≤ i
    → done ++ map f (drop i xs) ≡ all → done ≡ all
told_to_end f xs i done all low so_far = sym (append-nil done) ∙ (rw (drop_past xs i low) at so_far)

-- with each step there is less to walk
pub less_left : (o : Ordering) (i j n m : ℕ) → i < n → j < m
    → (n - past_earlier o i) + (m - past_later o j) < (n - i) + (m - j)
less_left Less i j n m p q = omega (arith, p, q)
less_left Equal i j n m p q = omega (arith, p, q)
less_left Greater i j n m p q = omega (arith, p, q)

-- one more text of a list, after those so far
pub text_more : {X : Type 0} (f : X → List ℕ) (xs : List X) (i : ℕ) (x : X) (start done more : List ℕ)
    → slice_get xs i ≡ Some x → done ≡ start ++ flat_map f (take i xs) → more ≡ done ++ f x
    → more ≡ start ++ flat_map f (take (i + 1) xs)
text_more f xs i x start done more at so_far is =
    is ∙ ap (λ (l : List ℕ). l ++ f x) so_far ∙ append_assoc start (flat_map f (take i xs)) (f x)
    ∙ ap (λ (l : List ℕ). start ++ l) (sym (rw (add-one i) (flat_next f xs i x at)))
