-- Numbers in ascending order, as those of the delete files that apply.
use Rattle.std.proofs.Common.{◌≡◌, ◌≤◌, ◌+◌, ℕ, zero, suc, Bool, true, false, not, ◌&&◌, List, [], ◌∷◌, map, filter}
use Rattle.std.proofs.Common.{cond, replicate, refl, sym, ap, ◌∙◌, arith, nat_lt, is_lt, ◌==◌}
use Rattle.std.specs.Cmp.{IsStrictWeakOrder}
use Rattle.std.specs.List.{enumerate_from, sum_by, AllByRecursion}
use Rattle.std.specs.List.Sorted.{IsPermutation, IsSorted, ties}
use Rattle.std.specs.Ordering.{nat_cmp}
use Rattle.std.specs.declared.cmp.Ordering.TheVariants.{Less, Equal, Greater}
use Rattle.std.proofs.lemmas.Bool.Decides.{nat_tests}
use Rattle.std.proofs.lemmas.Cmp.{nat_cmp_total}
use Rattle.std.proofs.lemmas.List.Sums.{sum_by-cons}
use Rattle.std.proofs.lemmas.List.Sorted.{ranks_by, sum_by-IsPermutation}
use Rattle.contract_words.proofs.Sorted.{Rises, rises_from, sorted_rises, sorted_ties, unique}
use Rattle.ice_value.specs.Applying.{DeleteKey}
use Rattle.ice_deletes.specs.Found.{numbers_where}
use Rattle.ice_state.specs.Parts.{ascending}

abbrev lower : ℕ → ℕ → Bool
lower a b = is_lt (nat_cmp a b)

by_size : IsStrictWeakOrder lower
by_size = ranks_by nat_cmp_total (λ (n : ℕ). n)

lower_is : (a b : ℕ) → lower a b ≡ nat_lt a b
lower_is a b = elim (nat_lt a b) as (λ v. is_lt (cond v Less (cond (a == b) Equal Greater)) ≡ v) [
  | true ↦ refl
  | false ↦ elim (a == b) as (λ v. is_lt (cond v Equal Greater) ≡ false) [ true ↦ refl | false ↦ refl ]
]

not_lower : (a b : ℕ) → b ≤ a → lower a b ≡ false
not_lower a b h = lower_is a b ∙ (grind (arith, nat_tests))

neither : (a b : Bool) → (not a && not b) ≡ true → (a ≡ false) × (b ≡ false)
neither true b h = cc
neither false true h = cc
neither false false h = (refl, refl)

-- numbers that tie are one
tied : (a b : ℕ) → ties lower a b ≡ true → a ≡ b
tied a b h =
    let none = neither (lower a b) (lower b a) h in
    let up : nat_lt a b ≡ false = sym (lower_is a b) ∙ none.0 in
    let down : nat_lt b a ≡ false = sym (lower_is b a) ∙ none.1 in
    grind (arith, nat_tests)

-- how often a number stands in a list
abbrev times : ℕ → List ℕ → ℕ
times n [] = zero
times n (k ∷ ks) = cond (ties lower n k) (suc (times n ks)) (times n ks)

sum-times : (n : ℕ) (ks : List ℕ) → sum_by (λ k. cond (ties lower n k) 1 0) ks ≡ times n ks
sum-times n [] = refl
sum-times n (k ∷ ks) =
    sum_by-cons (λ (m : ℕ). cond (ties lower n m) 1 0) k ks
    ∙ elim (ties lower n k) as (λ v. cond v 1 0 + sum_by (λ (m : ℕ). cond (ties lower n m) 1 0) ks ≡ cond v
    (suc (times n ks)) (times n ks)) [
      | true ↦ let e = sum-times n ks in omega arith
      | false ↦ let e = sum-times n ks in omega arith
    ]

times-permuted : (n : ℕ) (ks ms : List ℕ) → IsPermutation ks ms → times n ms ≡ times n ks
times-permuted n ks ms h = sym (sum-times n ms) ∙ sum_by-IsPermutation (λ (k : ℕ). cond (ties lower n k) 1 0) ks ms h ∙
    sum-times n ks

tied_alike : (n : ℕ) (ks : List ℕ) → filter (ties lower n) ks ≡ replicate (times n ks) n
tied_alike n [] = refl
tied_alike n (k ∷ ks) =
    let P : (b : Bool) → ties lower n k ≡ b → cond b (k ∷ filter (ties lower n) ks) (filter (ties lower n) ks)
    ≡ replicate (cond b (suc (times n ks)) (times n ks)) n =
    λ b. elim b as (λ v. ties lower n k ≡ v → cond v (k ∷ filter (ties lower n) ks) (filter (ties lower n) ks)
    ≡ replicate (cond v (suc (times n ks)) (times n ks)) n) [
      | true ↦ λ h. ap (λ m. m ∷ filter (ties lower n) ks) (sym (tied n k h)) ∙ ap (λ ms. n ∷ ms) (tied_alike n ks)
      | false ↦ λ h. tied_alike n ks
    ] in
    P (ties lower n k) refl

same_ties : (ks ms : List ℕ) → IsPermutation ks ms → (n : ℕ) → filter (ties lower n) ms ≡ filter (ties lower n) ks
same_ties ks ms same n = tied_alike n ms ∙ ap (λ t. replicate t n) (times-permuted n ks ms same) ∙ sym (tied_alike n ks)

-- one list of the same numbers ascends
pub one_ascends : (ks ms : List ℕ) → IsPermutation ks ms → IsSorted nat_cmp ms → ms ≡ ascending ks
one_ascends ks ms same up = unique lower by_size ms (ascending ks) (rises_from lower by_size ms up)
    (sorted_rises lower by_size ks) (λ n. same_ties ks ms same n ∙ sym (sorted_ties lower by_size n ks))

-- numbers that stand as often ascend alike
ascend_alike : (ks ms : List ℕ) → ((n : ℕ) → times n ms ≡ times n ks) → ascending ms ≡ ascending ks
ascend_alike ks ms same = unique lower by_size (ascending ms) (ascending ks) (sorted_rises lower by_size ms)
    (sorted_rises lower by_size ks)
    (λ n. sorted_ties lower by_size n ms ∙ tied_alike n ms ∙ ap (λ t. replicate t n) (same n) ∙ sym (tied_alike n ks)
    ∙ sym (sorted_ties lower by_size n ks))

already : (ks : List ℕ) → Rises lower by_size ks → ascending ks ≡ ks
already ks up = unique lower by_size (ascending ks) ks (sorted_rises lower by_size ks) up
    (λ n. sorted_ties lower by_size n ks)

-- how often a number is one of those that pass
abbrev passing : (DeleteKey → Bool) → ℕ → ℕ × DeleteKey → ℕ
passing p n e = cond (p e.1) (cond (ties lower n e.0) 1 0) 0

one_more : (b : Bool) (t s : ℕ) → t ≡ s → cond b (suc t) t ≡ cond b 1 0 + s
one_more true t s h = omega arith
one_more false t s h = omega arith

times-where : (p : DeleteKey → Bool) (es : List (ℕ × DeleteKey)) (n : ℕ)
    → times n (numbers_where p es) ≡ sum_by (passing p n) es
times-where p [] n = refl
times-where p (e ∷ es) n =
    let rest = times-where p es n in
    elim (p e.1) as (λ v. times n (map (λ (e : ℕ × DeleteKey). e.0)
    (cond v (e ∷ filter (λ (e : ℕ × DeleteKey). p e.1) es) (filter (λ (e : ℕ × DeleteKey). p e.1) es)))
    ≡ cond v (cond (ties lower n e.0) 1 0) 0 + sum_by (passing p n) es) [
      | true ↦ one_more (ties lower n e.0) (times n (numbers_where p es)) (sum_by (passing p n) es) rest
      | false ↦ omega arith
    ]
    ∙ sym (sum_by-cons (passing p n) e es)

-- those that pass ascend alike, in whatever order an index has them
pub index_ascends : (p : DeleteKey → Bool) (es fs : List (ℕ × DeleteKey)) → IsPermutation es fs
    → ascending (numbers_where p fs) ≡ ascending (numbers_where p es)
index_ascends p es fs same = ascend_alike (numbers_where p es) (numbers_where p fs)
    (λ n. times-where p fs n ∙ sum_by-IsPermutation (passing p n) es fs same ∙ sym (times-where p es n))

-- the numbers, from m on, of those that pass
abbrev pub numbers_from : ℕ → (DeleteKey → Bool) → List DeleteKey → List ℕ
numbers_from m p files = map (λ (e : ℕ × DeleteKey). e.0)
    (filter (λ (e : ℕ × DeleteKey). p e.1) (enumerate_from m files))

abbrev pub with_first : (DeleteKey → Bool) → DeleteKey → List DeleteKey → ℕ → Bool → List ℕ
with_first p f fs m v = map (λ (e : ℕ × DeleteKey). e.0) (cond v ((m, f) ∷ filter (λ (e : ℕ × DeleteKey). p e.1)
    (enumerate_from (m + 1) fs)) (filter (λ (e : ℕ × DeleteKey). p e.1) (enumerate_from (m + 1) fs)))

-- none of them is below m
from_on : (p : DeleteKey → Bool) (files : List DeleteKey) (k m : ℕ) → k ≤ m
    → AllByRecursion (λ n. lower n k ≡ false) (numbers_from m p files)
from_on p [] k m h = tt
from_on p (f ∷ fs) k m h =
    let rest = from_on p fs k (m + 1) (omega arith) in
    elim (p f) as (λ v. AllByRecursion (λ n. lower n k ≡ false) (with_first p f fs m v))
    [ true ↦ (not_lower m k h, rest) | false ↦ rest ]

ascends : (p : DeleteKey → Bool) (files : List DeleteKey) (m : ℕ) → Rises lower by_size (numbers_from m p files)
ascends p [] m = tt
ascends p (f ∷ fs) m =
    let rest = ascends p fs (m + 1) in
    elim (p f) as (λ v. Rises lower by_size (with_first p f fs m v))
    [ true ↦ (from_on p fs m (m + 1) (omega arith), rest) | false ↦ rest ]

-- numbers by place ascend already
pub numbers_ascend : (p : DeleteKey → Bool) (files : List DeleteKey)
    → ascending (numbers_where p (enumerate_from 0 files)) ≡ numbers_where p (enumerate_from 0 files)
numbers_ascend p files = already (numbers_from 0 p files) (ascends p files 0)
