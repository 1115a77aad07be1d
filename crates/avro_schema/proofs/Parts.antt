-- Full names in two parts, compared as the texts that they stand for.
use Rattle.std.proofs.Common.{◌≡◌, ℕ, zero, suc, ◌+◌, ◌≤◌, ◌<◌, Bool, true, false, ◌||◌, ◌==◌, List, [], ◌∷◌, ◌++◌}
use Rattle.std.proofs.Common.{length, get_or, drop, take, Ordering, Less, Equal, Greater, nat_cmp, refl, sym, ap, ◌∙◌}
use Rattle.std.proofs.Common.{◌-◌, add-one, drop-cons, length-drop, arith}
use Rattle.std.proofs.lemmas.List.{take_all}
use Rattle.std.proofs.lemmas.Slice.Eq.{bytes_eq-Decides}
use Rattle.std.specs.Str.{bytes_eq}
use Rattle.std.specs.Prelude.{min}
use Rattle.std.specs.Ordering.{MatchOrdering, ordering_then, ordering_reverse, is_eq, is_ne}
use Rattle.std.specs.Cmp.Lexicographic.{slice_cmp}
use Rattle.std.proofs.lemmas.Cmp.{ranked, nat_list_cmp_total}
use Rattle.std.proofs.lemmas.Map.Lookups.{exact_bytes}
use Rattle.avro_schema.specs.Names.{dotted, space_of, last_of, within, name_order}
use Rattle.avro_schema.proofs.Walks.{end_of, no_space}

-- ---- the order of two texts, part by part

then_then : (o p q : Ordering) → ordering_then (ordering_then o p) q ≡ ordering_then o (ordering_then p q)
then_then Less p q = refl
then_then Equal p q = refl
then_then Greater p q = refl

pub decides : (o p : Ordering) → is_ne o ≡ true → ordering_then o p ≡ o
decides Less p h = refl
decides Equal p h = absurd cc
decides Greater p h = refl

pub defers : (o p : Ordering) → is_ne o ≡ false → ordering_then o p ≡ p
defers Less p h = absurd cc
defers Equal p h = refl
defers Greater p h = absurd cc

turned : (o : Ordering) → o ≡ ordering_reverse o → o ≡ Equal
turned Less h = absurd cc
turned Equal h = refl
turned Greater h = absurd cc

pub same_text : (s : List ℕ) → slice_cmp nat_cmp s s ≡ Equal
same_text s = turned _ (nat_list_cmp_total.antisymm s s)

-- the first bytes, and then the others
parted : (k : ℕ) (xs ys : List ℕ) → k ≤ length xs → k ≤ length ys
    → slice_cmp nat_cmp xs ys ≡ ordering_then (slice_cmp nat_cmp (take k xs) (take k ys)) (slice_cmp nat_cmp (drop k xs)
    (drop k ys))
parted zero xs ys a b = refl
parted (suc k) [] ys a b = absurd (omega arith)
parted (suc k) (x ∷ xs) [] a b = absurd (omega arith)
parted (suc k) (x ∷ xs) (y ∷ ys) a b = ap (ordering_then (nat_cmp x y)) (parted k xs ys (omega arith) (omega arith)) ∙
    sym (then_then (nat_cmp x y) _ _)

-- what both begin with does not matter
pub past_same : (k : ℕ) (xs ys : List ℕ) → k ≤ length xs → k ≤ length ys → bytes_eq (take k xs) (take k ys) ≡ true
    → slice_cmp nat_cmp (take (length xs - k) (drop k xs)) (take (length ys - k) (drop k ys)) ≡ slice_cmp nat_cmp xs ys
past_same k xs ys a b h =
    let rest = slice_cmp nat_cmp (drop k xs) (drop k ys) in
    let e : take k xs ≡ take k ys = (bytes_eq-Decides (take k xs) (take k ys)).0 h in
    let same : slice_cmp nat_cmp (take k xs) (take k ys) ≡ Equal =
    ap (λ (s : List ℕ). slice_cmp nat_cmp s (take k ys)) e ∙ same_text (take k ys) in
    let whole : rest ≡ slice_cmp nat_cmp xs ys =
    sym (parted k xs ys a b ∙ ap (λ (o : Ordering). ordering_then o rest) same) in
    let p : take (length xs - k) (drop k xs) ≡ drop k xs =
    take_all (length xs - k) (drop k xs) (omega (arith, length-drop k xs)) in
    let q : take (length ys - k) (drop k ys) ≡ drop k ys =
    take_all (length ys - k) (drop k ys) (omega (arith, length-drop k ys)) in
    (λ i. slice_cmp nat_cmp (p i) (q i)) ∙ whole

take_front : (k : ℕ) (space name : List ℕ) → k ≤ length space → take k (within space name) ≡ take k space
take_front zero [] name h = refl
take_front zero (x ∷ space) name h = refl
take_front (suc k) [] name h = absurd (omega arith)
take_front (suc k) (x ∷ space) name h = ap (λ (s : List ℕ). x ∷ s) (front k space (46 ∷ name) (omega arith))
  where
    front : (k : ℕ) (xs ys : List ℕ) → k ≤ length xs → take k (xs ++ ys) ≡ take k xs
    front zero xs ys h = refl
    front (suc k) [] ys h = absurd (omega arith)
    front (suc k) (x ∷ xs) ys h = ap (λ (s : List ℕ). x ∷ s) (front k xs ys (omega arith))

long : (space name : List ℕ) → 0 < length space → length (within space name) ≡ length space + 1 + length name
long [] name h = absurd (omega arith)
long (x ∷ space) name h = let e : length (space ++ 46 ∷ name) ≡ length space + 1 + length name = joint space in
    omega (arith, e)
  where
    joint : (xs : List ℕ) → length (xs ++ 46 ∷ name) ≡ length xs + 1 + length name
    joint [] = omega arith
    joint (y ∷ xs) = let e : length (xs ++ 46 ∷ name) ≡ length xs + 1 + length name = joint xs in omega (arith, e)

reaches : (space name : List ℕ) → length space ≤ length (within space name)
reaches [] name = omega arith
reaches (x ∷ space) name = let e : length (within (x ∷ space) name) ≡ length (x ∷ space) + 1 + length name =
    long (x ∷ space) name (omega arith) in omega (arith, e)

-- ---- the loop

pub next : (xs ys : List ℕ) (i : ℕ) (o : Ordering) → i < length xs → i < length ys
    → o ≡ nat_cmp (get_or xs i 0) (get_or ys i 0) → slice_cmp nat_cmp (drop i xs) (drop i ys) ≡ ordering_then o
    (slice_cmp nat_cmp (drop (i + 1) xs) (drop (i + 1) ys))
next xs ys i o a b is = rw (drop-cons xs i 0 a, drop-cons ys i 0 b, add-one, is) refl

ends_as : (xs ys : List ℕ) (i : ℕ) (r : Ordering) → MatchOrdering r (length xs < length ys) (length xs ≡ length ys)
    (length ys < length xs) → i ≡ min (length xs) (length ys) → r ≡ slice_cmp nat_cmp (drop i xs) (drop i ys)
ends_as xs ys i Less lt at = let l : length xs < length ys = lt in let a : length xs ≤ i = omega (arith, l, at) in
    let b : i < length ys = omega (arith, l, at) in rw (end_of xs i a, drop-cons ys i 0 b) refl
ends_as xs ys i Equal eq at = let l : length xs ≡ length ys = eq in let a : length xs ≤ i = omega (arith, l, at) in
    let b : length ys ≤ i = omega (arith, l, at) in rw (end_of xs i a, end_of ys i b) refl
ends_as xs ys i Greater gt at = let l : length ys < length xs = gt in let a : length ys ≤ i = omega (arith, l, at) in
    let b : i < length xs = omega (arith, l, at) in rw (end_of ys i a, drop-cons xs i 0 b) refl

-- one text ends where the loop does
pub ends : (xs ys : List ℕ) (i : ℕ) (r : Ordering) → r ≡ nat_cmp (length xs) (length ys)
    → i ≡ min (length xs) (length ys) → r ≡ slice_cmp nat_cmp (drop i xs) (drop i ys)
ends xs ys i r is at = ends_as xs ys i r (ranked _ _ r is) at

-- two full names, past what their namespaces have both
past_front : (left space right other : List ℕ) (k : ℕ) → k ≤ length left → k ≤ length right
    → slice_cmp nat_cmp (within left space) (within right other) ≡ ordering_then (slice_cmp nat_cmp (take k left)
    (take k right)) (slice_cmp nat_cmp (drop k (within left space)) (drop k (within right other)))
past_front left space right other k a b =
    let p : length left ≤ length (within left space) = reaches left space in
    let q : length right ≤ length (within right other) = reaches right other in
    rw (sym (take_front k left space a), sym (take_front k right other b)) (parted k (within left space)
    (within right other) (omega (arith, p, a)) (omega (arith, q, b)))

pub decided_in_front : (left space right other : List ℕ) (k : ℕ) (o : Ordering) → k ≤ length left → k ≤ length right
    → o ≡ slice_cmp nat_cmp (take k left) (take k right) → is_ne o ≡ true
    → o ≡ slice_cmp nat_cmp (within left space) (within right other)
decided_in_front left space right other k o a b is ne =
    let rest = slice_cmp nat_cmp (drop k (within left space)) (drop k (within right other)) in
    sym (decides o rest ne) ∙ ap (λ (p : Ordering). ordering_then p rest) is ∙ sym (past_front left space right other k
    a b)

pub alike_in_front : (left space right other : List ℕ) (k : ℕ) (o : Ordering) → k ≤ length left → k ≤ length right
    → o ≡ slice_cmp nat_cmp (take k left) (take k right) → is_ne o ≡ false
    → slice_cmp nat_cmp (drop k (within left space)) (drop k (within right other)) ≡ slice_cmp nat_cmp
    (within left space) (within right other)
alike_in_front left space right other k o a b is ne =
    let rest = slice_cmp nat_cmp (drop k (within left space)) (drop k (within right other)) in
    sym (defers o rest ne) ∙ ap (λ (p : Ordering). ordering_then p rest) is ∙ sym (past_front left space right other k a
    b)

-- ---- the namespace of a full name

dot_inside : (xs ys : List ℕ) → dotted (xs ++ 46 ∷ ys) ≡ true
unfolding dotted
dot_inside [] ys = refl
dot_inside (x ∷ xs) ys = rw (dot_inside xs ys) (or_true (x == 46))
  where
    or_true : (b : Bool) → (b || true) ≡ true
    or_true true = refl
    or_true false = refl

-- a name without dots ends in the namespace that it stands in
pub space_around : (space name : List ℕ) → dotted name ≡ false → space ≡ space_of (within space name)
unfolding space_of
space_around [] name h = no_space name h
space_around (x ∷ space) name h = around (x ∷ space)
  where
    around : (xs : List ℕ) → xs ≡ space_of (xs ++ 46 ∷ name)
    around [] = rw h refl
    around (y ∷ xs) = rw (dot_inside xs name) (ap (λ (s : List ℕ). y ∷ s) (around xs))

-- ---- the order by last parts

-- a full name ends as its name does
last_within : (space name : List ℕ) → last_of (within space name) ≡ last_of name
unfolding last_of
last_within [] name = refl
last_within (x ∷ space) name = behind (x ∷ space)
  where
    behind : (xs : List ℕ) → last_of (xs ++ 46 ∷ name) ≡ last_of name
    behind [] = rw (dot_inside [] name) refl
    behind (y ∷ xs) = rw (dot_inside (y ∷ xs) name) (behind xs)

-- the order of two full names' last parts, of which the names tell
pub lasts : (left name right other s t : List ℕ) (o : Ordering) → o ≡ slice_cmp nat_cmp s t → s ≡ last_of name
    → t ≡ last_of other
    → o ≡ slice_cmp nat_cmp (last_of (within left name)) (last_of (within right other))
lasts left name right other s t o is a b =
    is ∙ (λ i. slice_cmp nat_cmp ((a ∙ sym (last_within left name)) i) ((b ∙ sym (last_within right other)) i))

pub last_decides : (a b : List ℕ) (o : Ordering) → o ≡ slice_cmp nat_cmp (last_of a) (last_of b) → is_ne o ≡ true
    → o ≡ name_order a b
last_decides a b o is ne = sym (decides o (slice_cmp nat_cmp a b) ne) ∙ ap (λ (p : Ordering). ordering_then p
    (slice_cmp nat_cmp a b)) is

pub last_defers : (a b : List ℕ) (o : Ordering) → o ≡ slice_cmp nat_cmp (last_of a) (last_of b) → is_ne o ≡ false
    → slice_cmp nat_cmp a b ≡ name_order a b
last_defers a b o is ne = sym (defers o (slice_cmp nat_cmp a b) ne) ∙ ap (λ (p : Ordering). ordering_then p
    (slice_cmp nat_cmp a b)) is

pub same_order : (s : List ℕ) → name_order s s ≡ Equal
same_order s = ap (λ (o : Ordering). ordering_then o (slice_cmp nat_cmp s s)) (same_text (last_of s)) ∙ same_text s

-- names are the same in this order where they are the same texts
pub exact_names : (a b : List ℕ) → name_order a b ≡ Equal → a ≡ b
exact_names a b h = exact_bytes a b (whole (slice_cmp nat_cmp (last_of a) (last_of b)) (slice_cmp nat_cmp a b) h)
  where
    whole : (p q : Ordering) → ordering_then p q ≡ Equal → q ≡ Equal
    whole Less q h = absurd cc
    whole Equal q h = h
    whole Greater q h = absurd cc

pub same_test : (a b : List ℕ) → is_eq (name_order a b) ≡ is_eq (slice_cmp nat_cmp a b)
same_test a b = tests (name_order a b) (slice_cmp nat_cmp a b) refl refl
  where
    both : name_order a b ≡ Equal → slice_cmp nat_cmp a b ≡ Equal
    both h = ap (λ (s : List ℕ). slice_cmp nat_cmp s b) (exact_names a b h) ∙ same_text b

    back : slice_cmp nat_cmp a b ≡ Equal → name_order a b ≡ Equal
    back h = ap (λ (s : List ℕ). name_order s b) (exact_bytes a b h) ∙ same_order b

    tests : (o p : Ordering) → name_order a b ≡ o → slice_cmp nat_cmp a b ≡ p → is_eq o ≡ is_eq p
    tests Equal Equal h k = refl
    tests Equal Less h k = let e : slice_cmp nat_cmp a b ≡ Equal = both h in absurd cc
    tests Equal Greater h k = let e : slice_cmp nat_cmp a b ≡ Equal = both h in absurd cc
    tests Less Equal h k = let e : name_order a b ≡ Equal = back k in absurd cc
    tests Greater Equal h k = let e : name_order a b ≡ Equal = back k in absurd cc
    tests Less Less h k = refl
    tests Less Greater h k = refl
    tests Greater Less h k = refl
    tests Greater Greater h k = refl
