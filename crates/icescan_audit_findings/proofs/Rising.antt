-- Ids that rise.
use Rattle.std.proofs.Common.{◌≡◌, ◌⊎◌, inl, inr, ⊎_elim, ℕ, ◌+◌, ◌-◌, ◌<◌, ◌≤◌, ℤ, List, length, get_or, pos, sym, ap}
use Rattle.std.proofs.Common.{subst}
use Rattle.std.proofs.Common.{Result, Ok, Err, IfNone, IfSome, arith}
use Rattle.std.specs.Prelude.{◌<ℤ◌}
use Rattle.std.specs.Cmp.{int_cmp_is}
use Rattle.std.specs.List.Sorted.{IsBinarySearchResult, IsSearchInRange, IsSortedBy}
use Rattle.std.specs.Ordering.{int_cmp, is_lt}
use Rattle.std.specs.Result.{result_ok}
use Rattle.std.specs.declared.cmp.Ordering.TheVariants.{Less, Equal, Greater}
use Rattle.std.proofs.lemmas.Bool.{cases_lt}
use Rattle.std.proofs.lemmas.Cmp.{int_cmp_total, int_ranked}
use Rattle.std.proofs.lemmas.Int.{ints}
use Rattle.std.proofs.lemmas.List.{get_or_default}
use Rattle.std.proofs.lemmas.List.Sorted.{searchable_from_sorted}
use Rattle.icescan_audit_findings.specs.Ids.{AreRising, HasNone, IsBefore, IsBehind, IsOf, Rises}

abbrev at : List ℤ → ℕ → ℤ
at ids i = get_or ids i (pos 0)

pub unlike : (a b : ℤ) → a ≡ b → a <ℤ b → ⊥
unlike a b e h = omega (arith, ints)

side : (a n : ℕ) → a < n + 1 → (a < n) ⊎ (a ≡ n)
side a n h = grind arith

less_less : (a b c : ℤ) → a <ℤ b → b <ℤ c → a <ℤ c
less_less a b c h k = omega (arith, ints)

-- one more number
pub rise_more : (f : ℕ → ℤ) (i : ℕ) → 1 ≤ i → ((a b : ℕ) → a < b → b < i → f a <ℤ f b) → f (i - 1) <ℤ f i
    → (a b : ℕ) → a < b → b < i + 1 → f a <ℤ f b
rise_more f i low h last a b less most = elim (side b i most) as (λ _. f a <ℤ f b) [
  | inl m ↦ h a b less m
  | inr e ↦ subst (λ k. f a <ℤ f k) (sym e) (to_last (side a (i - 1) (omega arith)))
]
  where
    to_last : (a < i - 1) ⊎ (a ≡ i - 1) → f a <ℤ f i
    to_last (inl m) = less_less (f a) (f (i - 1)) (f i) (h a (i - 1) m (omega arith)) last
    to_last (inr e) = subst (λ k. f k <ℤ f i) (sym e) last

-- two places of one id are one
pub one_place : (ids : List ℤ) (i j : ℕ) → Rises ids → i < length ids → j < length ids → at ids i ≡ at ids j → i ≡ j
one_place ids i j rises low high same = elim (sides i j) as (λ _. i ≡ j) [
  | inl less ↦ absurd (unlike (at ids i) (at ids j) same (rises i j less high))
  | inr not ↦ elim (sides j i) as (λ _. i ≡ j) [
    | inl less ↦ absurd (unlike (at ids j) (at ids i) (sym same) (rises j i less low))
    | inr also ↦ omega arith
  ]
]
  where
    sides : (a b : ℕ) → (a < b) ⊎ (b ≤ a)
    sides a b = grind arith

-- a search by a number of each element, which rise, ends at the one that is sought, or between the others
module _ {X : Type 0} (key : X → ℤ) (xs : List X) (id : ℤ)
    (rising : (i j : ℕ) (d : X) → i < j → j < length xs → key (get_or xs i d) <ℤ key (get_or xs j d)) where
  sorted : IsSortedBy (λ (a b : X). is_lt (int_cmp (key a) (key b))) xs
  sorted = λ k d from to. ap is_lt (sym (int_cmp_is (key (get_or xs (k + 1) d)) (key (get_or xs k d)) Greater
      (rising k (k + 1) d (omega arith) to)))

  pub at_found : (k : ℕ) → IsBinarySearchResult (λ (x : X). int_cmp (key x) id) xs (Ok k) → (d : X)
      → key (get_or xs k d) ≡ id
  at_found k h d = int_ranked (key (get_or xs k d)) id Equal (sym (h d))

  pub not_found : (i : ℕ) → IsBinarySearchResult (λ (x : X). int_cmp (key x) id) xs (Err i) → (k : ℕ) (d : X)
      → k < length xs → key (get_or xs k d) ≡ id → ⊥
  not_found i h k d in_range same =
      let parts = h (searchable_from_sorted int_cmp_total key xs id sorted) in
      ⊎_elim
      (λ below. unlike (key (get_or xs k d)) id same (int_ranked (key (get_or xs k d)) id Less
      (sym (parts.0 k d (omega arith) below))))
      (λ above. unlike id (key (get_or xs k d)) (sym same) (int_ranked (key (get_or xs k d)) id Greater
      (sym (parts.1 k d above in_range))))
      (cases_lt k i)

-- of ids
pub searched : (ids : List ℤ) (id : ℤ) (r : Result ℕ ℕ) → Rises ids → IsSearchInRange r (length ids)
    → IsBinarySearchResult (λ (x : ℤ). int_cmp x id) ids r
    → record {
      there : IfSome (result_ok r) (λ k. (k < length ids) × (at ids k ≡ id));
      absent : IfNone (result_ok r) ((k : ℕ) → k < length ids → at ids k ≡ id → ⊥);
    }
searched ids id r rises = go r where
  any : (i j : ℕ) (d : ℤ) → i < j → j < length ids → get_or ids i d <ℤ get_or ids j d
  any i j d less in_range = subst (λ x. x <ℤ get_or ids j d) (get_or_default ids i (pos 0) d (omega arith))
      (subst (λ y. at ids i <ℤ y) (get_or_default ids j (pos 0) d in_range) (rises i j less in_range))

  go : (r : Result ℕ ℕ) → IsSearchInRange r (length ids) → IsBinarySearchResult (λ (x : ℤ). int_cmp x id) ids r
      → record {
        there : IfSome (result_ok r) (λ k. (k < length ids) × (at ids k ≡ id));
        absent : IfNone (result_ok r) ((k : ℕ) → k < length ids → at ids k ≡ id → ⊥);
      }
  go (Ok k) low h = record { there = (low, at_found (λ x. x) ids id any k h (pos 0)); absent = tt }
  go (Err i) low h = record { there = tt; absent = λ k. not_found (λ x. x) ids id any i h k (pos 0) }

-- of pairs
module _ {T : Type 0} (pairs : List (ℤ × T)) (id : ℤ) where
  pub searched_pairs : (r : Result ℕ ℕ) → AreRising pairs → IsSearchInRange r (length pairs)
      → IsBinarySearchResult (λ (p : ℤ × T). int_cmp p.0 id) pairs r
      → record { there : IfSome (result_ok r) (IsOf pairs id); absent : IfNone (result_ok r) (HasNone pairs id) }
  searched_pairs (Ok k) rising low h = record { there = (low, at_found (λ p. p.0) pairs id rising k h); absent = tt }
  searched_pairs (Err i) rising low h = record { there = tt; absent = not_found (λ p. p.0) pairs id rising i h }

  -- an id between those of two neighbours is that of none
  pub between : (place : ℕ) → AreRising pairs → place ≤ length pairs → IsBehind pairs place id → IsBefore pairs place id
      → HasNone pairs id
  between place rising low behind before k d in_range same = ⊎_elim
      (λ less. unlike (get_or pairs k d).0 id same (front (side k (place - 1) (omega arith)) (omega arith)))
      (λ more. unlike id (get_or pairs k d).0 (sym same) (back (side place k (omega arith))))
      (cases_lt k place)
    where
      front : (k < place - 1) ⊎ (k ≡ place - 1) → 0 < place → (get_or pairs k d).0 <ℤ id
      front (inl less) some = less_less (get_or pairs k d).0 (get_or pairs (place - 1) d).0 id
          (rising k (place - 1) d less (omega arith)) (behind d some)
      front (inr e) some = subst (λ j. (get_or pairs j d).0 <ℤ id) (sym e) (behind d some)

      back : (place < k) ⊎ (place ≡ k) → id <ℤ (get_or pairs k d).0
      back (inl less) = less_less id (get_or pairs place d).0 (get_or pairs k d).0 (before d (omega arith))
          (rising place k d less in_range)
      back (inr e) = subst (λ j. id <ℤ (get_or pairs j d).0) e (before d (omega arith))
