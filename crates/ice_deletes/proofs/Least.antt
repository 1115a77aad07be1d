-- Numbers from a least one on.
use Rattle.std.proofs.Common.{◌≡◌, ℕ, ◌<◌, ◌≤◌, ◌==◌, Bool, true, not, List, [], ◌∷◌, ◌++◌, length, filter}
use Rattle.std.proofs.Common.{refl, sym, ap, ◌∙◌, ◌+◌, ◌⊎◌, inl, inr, arith, cond, get_or, nat_le, eqb-true}
use Rattle.std.proofs.Common.{slice_index}
use Rattle.std.specs.List.{All, AllByRecursion, list_any}
use Rattle.std.specs.List.Sorted.{IsPermutation}
use Rattle.std.proofs.lemmas.Bool.{le-leb}
use Rattle.std.proofs.lemmas.List.Elements.{All-get_or, filter-append, recursion_from_All}
use Rattle.std.proofs.lemmas.List.Sorted.{list_any-IsPermutation}
use Rattle.std.proofs.lemmas.Map.Views.{any-filter_same}
use Rattle.ice_value.specs.Applying.{DeleteKey}
use Rattle.ice_deletes.specs.Unions.{renumbered, unheld, AreBelow}

-- those of four lists, one after the other
pub four_from : (p : ℕ → Bool) (a b c d : List ℕ)
    → filter p a ++ filter p b ++ filter p c ++ filter p d ≡ filter p (a ++ b ++ c ++ d)
four_from p a b c d = sym (filter-append p (a ++ b ++ c) d
    ∙ ap (λ l. l ++ filter p d) (filter-append p (a ++ b) c
    ∙ ap (λ l. l ++ filter p c) (filter-append p a b)))

module _ (least : ℕ) (all held : List ℕ) (same : IsPermutation (filter (nat_le least) all) held) where
  -- a number that is not below it is held if it is one of all
  held_from : (n : ℕ) → nat_le least n ≡ true → list_any (λ m. m == n) held ≡ list_any (λ m. m == n) all
  held_from n from = sym (list_any-IsPermutation (λ m. m == n) (filter (nat_le least) all) held same)
      ∙ any-filter_same (λ m. m == n) (nat_le least) true (λ k at. ap (nat_le least) (eqb-true k n at) ∙ from) all

  -- the files that are left are the same
  left : (es : List (ℕ × DeleteKey)) → AllByRecursion (λ e. nat_le least e.0 ≡ true) es → unheld held es ≡ unheld all es
  left [] from = refl
  left (e ∷ es) from =
      ap (λ b. cond (not b) (e ∷ unheld held es) (unheld held es)) (held_from e.0 from.0)
      ∙ ap (λ fs. cond (not (list_any (λ m. m == e.0) all)) (e ∷ fs) fs) (left es from.1)

  not_below : (to : List ℕ) → All (λ n. least ≤ n) to → (es : List (ℕ × DeleteKey))
      → AllByRecursion (λ e. e.0 < length to) es → AllByRecursion (λ e. nat_le least e.0 ≡ true) (renumbered to es)
  not_below to above [] low = tt
  not_below to above (e ∷ es) low = (
    le-leb least (slice_index to e.0) (All-get_or (λ n. least ≤ n) to e.0 0 low.0 above),
    not_below to above es low.1,
  )

  -- the same for files under numbers of which none is below it
  pub unheld_from : (to : List ℕ) → All (λ n. least ≤ n) to → (es : List (ℕ × DeleteKey)) → AreBelow (length to) es
      → unheld held (renumbered to es) ≡ unheld all (renumbered to es)
  unheld_from to above es below = left (renumbered to es) (not_below to above es
      (recursion_from_All (λ e. e.0 < length to) es below))

-- one number more
pub at_least_more : (ns : List ℕ) (k old new : ℕ) → ((i : ℕ) → i < k → old ≤ get_or ns i 0) → new ≤ old
    → new ≤ get_or ns k 0 → (i : ℕ) → i < k + 1 → new ≤ get_or ns i 0
at_least_more ns k old new were low this i before = elim (side i k before) [
  | inl below ↦ let was = were i below in omega arith
  | inr at ↦ rw at this
] where
  side : (i k : ℕ) → i < k + 1 → (i < k) ⊎ (i ≡ k)
  side i k h = grind arith
