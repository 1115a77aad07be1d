-- An index that takes in another one, whose numbers go on behind its own.
use Rattle.std.proofs.Common.{◌≡◌, ◌≢◌, ◌<◌, ◌≤◌, ◌+◌, ℕ, suc, Bool, true, false, not, List, [], ◌∷◌, ◌++◌, length}
use Rattle.std.proofs.Common.{map, filter, cond, get_or, slice_index, refl, sym, ap, subst, ◌∙◌, arith, add-zero, inl}
use Rattle.std.proofs.Common.{inr}
use Rattle.std.specs.List.{AllPairs, AllByRecursion, enumerate_from, range_with_len}
use Rattle.std.specs.List.Sorted.{IsPermutation}
use Rattle.std.proofs.lemmas.List.Elements.{All-contains, All-from_recursion, filter-append, Contains-append_left}
use Rattle.std.proofs.lemmas.List.Elements.{Contains-append_right, Contains-append_cases}
use Rattle.std.proofs.lemmas.List.FromFn.{get_or-range_with_len, length-range_with_len}
use Rattle.std.proofs.lemmas.List.Sorted.{IsPermutation-refl, IsPermutation-trans, IsPermutation-map}
use Rattle.std.proofs.lemmas.List.Sorted.{IsPermutation-append}
use Rattle.ice_value.specs.Applying.{DeleteKey}
use Rattle.ice_value.specs.declared.file_content.FileContent.TheVariants.{Data}
use Rattle.ice_deletes.specs.Found.{holds, numbered_deletes}
use Rattle.ice_deletes.specs.Unions.{renumbered, AreBelow, Agree, IsUnion}
use Rattle.ice_deletes.proofs.Endings.{of_renumbered, unique, distinct_permuted}
use Rattle.ice_deletes.proofs.Naming.{built_all}
use Rattle.ice_deletes.proofs.Parts.{numbered_once}

-- ---- numbers by place

numbers_below : (keys : List DeleteKey) (m n : ℕ) → m + length keys ≤ n
    → AllByRecursion (λ (e : ℕ × DeleteKey). e.0 < n) (enumerate_from m keys)
numbers_below [] m n h = tt
numbers_below (k ∷ ks) m n h = (omega arith, numbers_below ks (m + 1) n (omega arith))

-- each number is the place of one of the files
pub indexed_below : (keys : List DeleteKey) (index : List (ℕ × DeleteKey)) (n : ℕ) → length keys ≤ n
    → IsPermutation (numbered_deletes keys) index → AreBelow n index
indexed_below keys index n h same = built_all (λ e. e.0 < n) keys index same
    (All-from_recursion (λ e. e.0 < n) (enumerate_from 0 keys) (numbers_below keys 0 n (omega arith)))

numbered_both : (n : ℕ) (ks ls : List DeleteKey)
    → enumerate_from n (ks ++ ls) ≡ enumerate_from n ks ++ enumerate_from (n + length ks) ls
numbered_both n [] ls = ap (λ m. enumerate_from m ls) (sym (add-zero n))
numbered_both n (k ∷ ks) ls =
    let e : n + 1 + length ks ≡ n + suc (length ks) = omega arith in
    ap (λ es. (n, k) ∷ es) (numbered_both (n + 1) ks ls
    ∙ ap (λ m. enumerate_from (n + 1) ks ++ enumerate_from m ls) e)

-- a test of the files alone doesn't see their numbers
pub filter_numbers : (at : ℕ → ℕ) (p : DeleteKey → Bool) (es : List (ℕ × DeleteKey))
    → filter (λ (e : ℕ × DeleteKey). p e.1) (map (λ e. (at e.0, e.1)) es)
    ≡ map (λ e. (at e.0, e.1)) (filter (λ (e : ℕ × DeleteKey). p e.1) es)
filter_numbers at p [] = refl
filter_numbers at p (e ∷ es) =
    let rest = filter_numbers at p es in
    elim (p e.1) as (λ b. cond b ((at e.0, e.1) ∷ filter (λ (x : ℕ × DeleteKey). p x.1) (map (λ x. (at x.0, x.1)) es))
    (filter (λ (x : ℕ × DeleteKey). p x.1) (map (λ x. (at x.0, x.1)) es))
    ≡ map (λ x. (at x.0, x.1)) (cond b (e ∷ filter (λ (x : ℕ × DeleteKey). p x.1) es)
    (filter (λ (x : ℕ × DeleteKey). p x.1) es))) [
      | true ↦ ap (λ xs. (at e.0, e.1) ∷ xs) rest
      | false ↦ rest
    ]

moved_on : (at : ℕ → ℕ) (n m : ℕ) (ls : List DeleteKey) → ((k : ℕ) → k < length ls → at (n + k) ≡ m + k)
    → map (λ e. (at e.0, e.1)) (enumerate_from n ls) ≡ enumerate_from m ls
moved_on at n m [] h = refl
moved_on at n m (l ∷ ls) h =
    let first : at n ≡ m = ap at (sym (add-zero n)) ∙ h 0 (omega arith) ∙ add-zero m in
    let step : (k : ℕ) → n + 1 + k ≡ n + suc k = λ k. omega arith in
    let next : (k : ℕ) → m + suc k ≡ m + 1 + k = λ k. omega arith in
    let rest = moved_on at (n + 1) (m + 1) ls (λ k low. ap at (step k) ∙ h (suc k) (omega arith) ∙ next k) in
    λ i. (first i, l) ∷ rest i

-- ---- numbers that go on

module _ (m n : ℕ) (to : List ℕ) (are : to ≡ range_with_len m n) where
  number_at : (k d : ℕ) → k < n → get_or to k d ≡ m + k
  number_at k d low = ap (λ (ns : List ℕ). get_or ns k d) are ∙ get_or-range_with_len m n k d low

  pub many : length to ≡ n
  many = ap length are ∙ length-range_with_len m n

  pub numbers_differ : AllPairs (λ i j. i ≢ j) to
  numbers_differ i j d lt low same =
      let all = many in
      let first = number_at i d (omega arith) in
      let later = number_at j d (omega arith) in
      absurd (omega arith)

  pub agree : (index others : List (ℕ × DeleteKey)) → AreBelow m index → AreBelow n others
      → Agree index (renumbered to others)
  agree index others below within k d e here there =
      let f = of_renumbered to others (k, e) there in
      let low : f.0.0 < n = All-contains (λ x. x.0 < n) others f.0 within f.1 in
      let mine : k < m = All-contains (λ x. x.0 < m) index (k, d) below here in
      let number : slice_index to f.0.0 ≡ k = ap (λ (x : ℕ × DeleteKey). x.0) f.2 in
      let at = number_at f.0.0 0 low in
      absurd (omega arith)

-- ---- both together

module _ (ks ls : List DeleteKey) (index others new : List (ℕ × DeleteKey)) (to : List ℕ)
    (first : IsPermutation (numbered_deletes ks) index) (second : IsPermutation (numbered_deletes ls) others)
    (are : to ≡ range_with_len (length ks) (length ls)) (union : IsUnion index (renumbered to others) new) where
  abbrev is_delete : DeleteKey → Bool
  is_delete k = not (holds Data k)

  numbered_is : numbered_deletes (ks ++ ls) ≡ numbered_deletes ks ++ renumbered to (numbered_deletes ls)
  numbered_is =
      let on : (k : ℕ) → k < length ls → slice_index to (0 + k) ≡ length ks + k =
      λ k low. (let z : 0 + k ≡ k = omega arith in
      ap (slice_index to) z ∙ number_at (length ks) (length ls) to are k 0 low) in
      let z : 0 + length ks ≡ length ks = omega arith in
      ap (filter (λ (e : ℕ × DeleteKey). is_delete e.1)) (numbered_both 0 ks ls
      ∙ ap (λ m. enumerate_from 0 ks ++ enumerate_from m ls) z
      ∙ ap (λ es. enumerate_from 0 ks ++ es) (sym (moved_on (slice_index to) 0 (length ks) ls on)))
      ∙ filter-append (λ (e : ℕ × DeleteKey). is_delete e.1) (enumerate_from 0 ks) (renumbered to (enumerate_from 0 ls))
      ∙ ap (λ es. numbered_deletes ks ++ es) (filter_numbers (slice_index to) is_delete (enumerate_from 0 ls))

  together : IsPermutation (numbered_deletes (ks ++ ls)) (index ++ renumbered to others)
  together =
      subst (λ (es : List (ℕ × DeleteKey)). IsPermutation es (index ++ renumbered to others)) (sym numbered_is)
      (IsPermutation-append (numbered_deletes ks) index (renumbered to (numbered_deletes ls)) (renumbered to others)
      first (IsPermutation-map (λ e. (slice_index to e.0, e.1)) (numbered_deletes ls) others second))

  joined : IsUnion index (renumbered to others) (index ++ renumbered to others)
  joined = record {
    same = λ n d. (
      Contains-append_cases index (renumbered to others) (n, d),
      λ c. elim c [
        | inl here ↦ Contains-append_left index (renumbered to others) (n, d) here
        | inr there ↦ Contains-append_right index (renumbered to others) (n, d) there
      ],
    );
    once = distinct_permuted (numbered_deletes (ks ++ ls)) (index ++ renumbered to others) together
        (numbered_once (ks ++ ls) (numbered_deletes (ks ++ ls)) (IsPermutation-refl (numbered_deletes (ks ++ ls))));
  }

  pub index_of_both : IsPermutation (numbered_deletes (ks ++ ls)) new
  index_of_both = IsPermutation-trans (numbered_deletes (ks ++ ls)) (index ++ renumbered to others) new together
      (unique index (renumbered to others) (index ++ renumbered to others) new joined union)
