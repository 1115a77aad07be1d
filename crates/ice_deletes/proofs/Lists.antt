-- Lists, their parts, and what passes tests.
use Rattle.std.proofs.Common.{◌≡◌, ℕ, zero, suc, ◌+◌, ◌-◌, ◌≤◌, Bool, true, false, not, ◌&&◌, List, [], ◌∷◌, length}
use Rattle.std.proofs.Common.{take, drop, map, filter, get_or, cond, refl, sym, ap, ◌∙◌, arith, ◌<◌, ◌⊎◌, inl, inr}
use Rattle.std.specs.Cmp.{IsStrictWeakOrder}
use Rattle.std.specs.List.{AllWithin, slice_range, take-map, drop-map}
use Rattle.std.specs.List.Sorted.{IsSortedBy, IsPartitionedBy, IsPartitionPoint}
use Rattle.std.proofs.lemmas.List.{drop-take, get_or-drop, get_or-take, length-drop, length-take-le}
use Rattle.std.proofs.lemmas.List.Elements.{filter_agree}
use Rattle.std.proofs.lemmas.List.Sorted.{sorted_far}

-- where a sorted list may be split
pub sorted_parted : {X : Type 0} (lt : X → X → Bool) → IsStrictWeakOrder lt → (p : X → Bool)
    → ((x y : X) → lt y x ≡ false → p y ≡ true → p x ≡ true) → (xs : List X) → IsSortedBy lt xs → IsPartitionedBy p xs
sorted_parted lt o p down xs up i j d le low h = down (get_or xs i d) (get_or xs j d) (sorted_far lt o xs up i j d le
    low) h

module _ {X : Type 0} (p : X → Bool) where
  none_pass : (xs : List X) → AllWithin (λ y. p y ≡ false) xs 0 (length xs) → filter p xs ≡ []
  none_pass [] h = refl
  none_pass (x ∷ xs) h = let e : p x ≡ false = h 0 x (omega arith) (omega arith) in
      rw e (none_pass xs (λ k d low high. h (suc k) d (omega arith) (omega arith)))

  all_others : (xs : List X) → AllWithin (λ y. p y ≡ false) xs 0 (length xs) → filter (λ y. not (p y)) xs ≡ xs
  all_others [] h = refl
  all_others (x ∷ xs) h = let e : p x ≡ false = h 0 x (omega arith) (omega arith) in
      rw e (ap (λ ys. x ∷ ys) (all_others xs (λ k d low high. h (suc k) d (omega arith) (omega arith))))

  -- what passes is the front
  pub front_passes : (xs : List X) (i : ℕ) → IsPartitionPoint (λ y. p y ≡ true) (λ y. p y ≡ false) xs i
      → take i xs ≡ filter p xs
  front_passes [] zero h = refl
  front_passes [] (suc i) h = refl
  front_passes (x ∷ xs) zero h = sym (none_pass (x ∷ xs) h.1)
  front_passes (x ∷ xs) (suc i) h =
      let e : p x ≡ true = h.0 0 x (omega arith) (omega arith) in
      rw e (ap (λ ys. x ∷ ys) (front_passes xs i (
        λ k d low high. h.0 (suc k) d (omega arith) (omega arith),
        λ k d low
            high. h.1 (suc k) d (omega arith) (omega arith),
      )))

  -- what fails is the back
  pub back_fails : (xs : List X) (i : ℕ) → IsPartitionPoint (λ y. p y ≡ true) (λ y. p y ≡ false) xs i
      → drop i xs ≡ filter (λ y. not (p y)) xs
  back_fails [] zero h = refl
  back_fails [] (suc i) h = refl
  back_fails (x ∷ xs) zero h = sym (all_others (x ∷ xs) h.1)
  back_fails (x ∷ xs) (suc i) h =
      let e : p x ≡ true = h.0 0 x (omega arith) (omega arith) in
      rw e (back_fails xs i (
        λ k d low high. h.0 (suc k) d (omega arith) (omega arith),
        λ k d low high. h.1 (suc k) d
            (omega arith) (omega arith),
      ))

-- a part of a list that a sorted front begins
pub parted_front : {X : Type 0} (p : X → Bool) (n : ℕ) (xs : List X) → n ≤ length xs → IsPartitionedBy p xs
    → IsPartitionedBy p (take n xs)
parted_front p n xs within h i j d le low k =
    let many : length (take n xs) ≡ n = length-take-le n xs within in
    let later : get_or (take n xs) j d ≡ get_or xs j d = get_or-take n xs j d (omega arith) in
    let sooner : get_or (take n xs) i d ≡ get_or xs i d = get_or-take n xs i d (omega arith) in
    let total : length (take n xs) ≤ length xs = omega arith in
    ap p sooner ∙ h i j d le (omega arith) (sym (ap p later) ∙ k)

pub parted_range : {X : Type 0} (p : X → Bool) (first end : ℕ) (xs : List X) → first ≤ end → end ≤ length xs
    → IsPartitionedBy p xs → IsPartitionedBy p (slice_range xs first end)
parted_range {X} p first end xs low high h i j d le l k =
    let near : List X = slice_range xs first end in
    let size : length near ≡ end - first =
    length-take-le (end - first) (drop first xs) (omega (arith, length-drop first xs)) in
    let at : (n : ℕ) → n < end - first → get_or near n d ≡ get_or xs (first + n) d = λ n m.
    get_or-take (end - first) (drop first xs) n d m ∙ get_or-drop first xs n d in
    ap p (at i (omega (arith, le, l, size)))
    ∙ h (first + i) (first + j) d (omega (arith, le)) (omega (arith, l, size, low, high))
    (sym (ap p (at j (omega (arith, l, size)))) ∙ k)

-- a place is before another one, or so far behind it
before_or_behind : (first k : ℕ) → (k < first) ⊎ ((j : ℕ) × (k ≡ first + j))
before_or_behind zero k = inr (k, omega arith)
before_or_behind (suc first) zero = inl (omega arith)
before_or_behind (suc first) (suc k) = elim (before_or_behind first k) [
  | inl before ↦ inl (omega arith)
  | inr behind ↦ inr (behind.0, omega (arith, behind.1))
]

-- what fails in a list is the back of it, where the last of a front passes, and the place is found behind that
pub later_back : {X : Type 0} (p : X → Bool) (first end m : ℕ) (xs : List X) → first ≤ end → end ≤ length xs
    → m ≤ length (slice_range xs first end) → IsPartitionedBy p xs
    → ((d : X) → 0 < first → p (get_or xs (first - 1) d) ≡ true)
    → IsPartitionPoint (λ y. p y ≡ true) (λ y. p y ≡ false) (slice_range xs first end) m
    → drop (first + m) (take end xs) ≡ filter (λ y. not (p y)) (take end xs)
later_back {X} p first end m xs low high most parted older point =
    let ys = take end xs in
    let many : length ys ≡ end = length-take-le end xs high in
    let near : List X = slice_range xs first end in
    let size : length near ≡ end - first =
    length-take-le (end - first) (drop first xs) (omega (arith, length-drop first xs)) in
    let at : (k : ℕ) (d : X) → k < end → get_or ys k d ≡ get_or xs k d = λ k d l. get_or-take end xs k d l in
    let behind : (j : ℕ) (d : X) → first + j < end → get_or near j d ≡ get_or ys (first + j) d = λ j d l.
    get_or-take (end - first) (drop first xs) j d (omega (arith, l)) ∙ get_or-drop first xs j d
    ∙ sym (at (first + j) d l) in
    back_fails p ys (first + m) (
      λ k d _ l. elim (before_or_behind first k) [
        | inl before ↦
            ap p (at k d (omega (arith, before)))
            ∙ parted k (first - 1) d (omega (arith, before)) (omega (arith, before)) (older d (omega (arith, before)))
        | inr far ↦
            ap p (ap (λ n. get_or ys n d) far.1 ∙ sym (behind far.0 d (omega (arith, l, far.1, most, size))))
            ∙ point.0 far.0 d (omega arith) (omega (arith, l, far.1))
      ],
      λ k d le l.
          let e : first + (k - first) ≡ k = omega (arith, le) in
          ap p (ap (λ n. get_or ys n d) (sym e) ∙ sym (behind (k - first) d (omega (arith, le, l, many))))
          ∙ point.1 (k - first) d (omega (arith, le)) (omega (arith, le, l, many, size)),
    )

pub filter-filter : {X : Type 0} (p q : X → Bool) (xs : List X) → filter q (filter p xs) ≡ filter (λ x. p x && q x) xs
filter-filter p q [] = refl
filter-filter {X} p q (x ∷ xs) =
    elim (p x) as (λ a. filter q (cond a (x ∷ filter p xs) (filter p xs)) ≡ cond (a && q x)
    (x ∷ filter (λ (y : X). p y && q y) xs) (filter (λ (y : X). p y && q y) xs)) [
      | true ↦
          elim (q x) as (λ b. cond b (x ∷ filter q (filter p xs)) (filter q (filter p xs)) ≡ cond b
          (x ∷ filter (λ (y : X). p y && q y) xs) (filter (λ (y : X). p y && q y) xs)) [
            | true ↦ ap (λ ys. x ∷ ys) (filter-filter p q xs)
            | false ↦ filter-filter p q xs
          ]
      | false ↦ filter-filter p q xs
    ]

-- a range of a list
pub range_is : {X : Type 0} (start end : ℕ) (xs : List X) → start ≤ end
    → take (end - start) (drop start xs) ≡ drop start (take end xs)
range_is start end xs le = let e : start + (end - start) ≡ end = omega arith in sym (drop-take start (end - start) xs) ∙
    ap (λ n. drop start (take n xs)) e

-- the part of a list between its front and its back
pub suffix_is : {X : Type 0} (number : X → ℕ) (near old within : X → Bool)
    → ((x : X) → (near x && not (old x)) ≡ within x) → (start end : ℕ) (xs : List X) (numbers : List ℕ) → start ≤ end →
    numbers ≡ map number xs → take end xs ≡ filter near xs
    → drop start (take end xs) ≡ filter (λ x. not (old x)) (take end xs) →
    take (end - start) (drop start numbers) ≡ map number (filter within xs)
suffix_is number near old within tests start end xs numbers le are front back =
    range_is start end numbers le
    ∙ ap (λ ns. drop start (take end ns)) are
    ∙ ap (drop start) (take-map number end xs)
    ∙ drop-map number start (take end xs)
    ∙ ap (map number) (back ∙ ap (filter (λ x. not (old x))) front ∙ filter-filter near (λ x. not (old x)) xs ∙
    filter_agree (λ x. near x && not (old x)) within tests xs)
