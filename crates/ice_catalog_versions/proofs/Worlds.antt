-- Files by their paths: what a sorted list of entries and the finite map that it stands for have in common.
use Rattle.std.proofs.Common.{◌≡◌, ℕ, Bool, true, false, cond, List, [], ◌∷◌, length, refl, sym, ◌∙◌, ap}
use Rattle.std.specs.Prelude.{T, String, string_bytes, ◌&&◌, Some}
use Rattle.std.specs.Option.{option_map}
use Rattle.std.specs.List.{AllZip}
use Rattle.std.specs.BTreeMap.{insert_entry, is_at}
use Rattle.std.specs.Map.{lookup}
use Rattle.std.specs.Ordering.{nat_cmp, match_ordering, is_eq}
use Rattle.std.specs.String.{string_cmp, string_eq}
use Rattle.std.specs.Bool.{Decides}
use Rattle.std.specs.Cmp.Lexicographic.{slice_cmp, nat_list_cmp_total, pointwise}
use Rattle.std.specs.declared.cmp.Ordering.TheVariants.{Less, Equal, Greater}
use Rattle.std.specs.FinMap.{FinMap, put, find, is_sorted, from_sorted, insert, empty, entries, entries-from_sorted}
use Rattle.std.specs.FinMap.{entries-insert, same_entries_map, empty_of_len, len-entries}
use Rattle.std.specs.FinMap.Entries.{is_sorted-put, by_order}
use Rattle.std.proofs.lemmas.Slice.Eq.{bytes_eq-Decides}
use Rattle.std.proofs.lemmas.Bool.Decides.{Decides-and}
use Rattle.ice_catalog_versions.specs.Pairs.{pairs}

abbrev Paths : Type 0
Paths = FinMap (slice_cmp nat_cmp) (List ℕ)

pub sorted_put : (k v : List ℕ) (es : List (List ℕ × List ℕ)) → T (is_sorted (slice_cmp nat_cmp) es)
    → T (is_sorted (slice_cmp nat_cmp) (put (slice_cmp nat_cmp) k v es))
sorted_put k v es h = is_sorted-put (slice_cmp nat_cmp) nat_list_cmp_total k v es h

pub no_entries : ◌≡◌ {A = Paths} (from_sorted []) empty
no_entries = empty_of_len (from_sorted []) (len-entries (from_sorted []) ∙ ap length
    (entries-from_sorted (slice_cmp nat_cmp) [] tt))

pub put_is_insert : (k v : List ℕ) (es : List (List ℕ × List ℕ)) → T (is_sorted (slice_cmp nat_cmp) es)
    → from_sorted {R = slice_cmp nat_cmp} (put (slice_cmp nat_cmp) k v es) ≡ insert (from_sorted es) k v
put_is_insert k v es h = same_entries_map _ _
    (entries-from_sorted (slice_cmp nat_cmp) (put (slice_cmp nat_cmp) k v es) (sorted_put k v es h)
    ∙ sym (entries-insert nat_list_cmp_total (from_sorted es) k v ∙ ap (put (slice_cmp nat_cmp) k v)
    (entries-from_sorted (slice_cmp nat_cmp) es h)))

pub same_sorted : (es fs : List (List ℕ × List ℕ)) → T (is_sorted (slice_cmp nat_cmp) es)
    → T (is_sorted (slice_cmp nat_cmp) fs)
    → from_sorted {R = slice_cmp nat_cmp} es ≡ from_sorted fs → es ≡ fs
same_sorted es fs h k e = sym (entries-from_sorted (slice_cmp nat_cmp) es h) ∙ (ap entries e ∙ entries-from_sorted
    (slice_cmp nat_cmp) fs k)

module _ {Y A : Type 0} (f : A → List ℕ) where
  pub pairs_insert : (k : String Y) (v : A) (es : List (String Y × A))
      → pairs f (insert_entry string_cmp es k v) ≡ put (slice_cmp nat_cmp) (string_bytes k) (f v) (pairs f es)
  pairs_insert k v [] = refl
  pairs_insert k v (e ∷ es) =
      elim (string_cmp k e.0) as (λ o. pairs f (match_ordering o ((k, v) ∷ e ∷ es) ((e.0, v) ∷ es)
      (e ∷ insert_entry string_cmp es k v)) ≡ by_order o ((string_bytes k, f v) ∷ pairs f (e ∷ es))
      ((string_bytes e.0, f v) ∷ pairs f es) ((string_bytes e.0, f e.1) ∷ put (slice_cmp nat_cmp) (string_bytes k)
      (f v) (pairs f es))) [
        | Less ↦ refl
        | Equal ↦ refl
        | Greater ↦ ap (λ xs. (string_bytes e.0, f e.1) ∷ xs) (pairs_insert k v es)
      ]

  pub pairs_find : (q : List ℕ) (es : List (String Y × A))
      → option_map f (lookup (is_at (λ k. slice_cmp nat_cmp q (string_bytes k))) es) ≡ find (slice_cmp nat_cmp) q
      (pairs f es)
  pairs_find q [] = refl
  pairs_find q (e ∷ es) =
      elim (is_eq (slice_cmp nat_cmp q (string_bytes e.0))) as
      (λ b. option_map f (cond b (Some e.1) (lookup (is_at (λ k. slice_cmp nat_cmp q (string_bytes k))) es)) ≡ cond
      b (Some (f e.1)) (find (slice_cmp nat_cmp) q (pairs f es))) [
        | true ↦ refl
        | false ↦ pairs_find q es
      ]

  pub pairs_clone : (C : A → A → Type 0) → ((a b : A) → C a b → f b ≡ f a) → (es fs : List (String Y × A))
      → AllZip (λ p q. (string_bytes q.0 ≡ string_bytes p.0) × C p.1 q.1) es fs → pairs f fs ≡ pairs f es
  pairs_clone C g [] [] h = refl
  pairs_clone C g [] (x ∷ fs) h = absurd h
  pairs_clone C g (e ∷ es) [] h = absurd h
  pairs_clone C g (e ∷ es) (x ∷ fs) h = λ i. (h.0.0 i, g e.1 x.1 h.0.1 i) ∷ pairs_clone C g es fs h.1 i

  -- a test that answers true just where the files have the same bytes
  module _ (E : A → A → Bool) (exact : (a b : A) → Decides (E a b) (f a ≡ f b)) where
    pub same_pairs : (es fs : List (String Y × A)) → Decides (pointwise (λ p q. string_eq p.0 q.0 && E p.1 q.1) es fs)
        (pairs f es ≡ pairs f fs)
    same_pairs [] [] = (λ _. refl, λ _. refl)
    same_pairs [] (y ∷ ys) = (λ e. cc, λ e. cc)
    same_pairs (x ∷ xs) [] = (λ e. cc, λ e. cc)
    same_pairs (x ∷ xs) (y ∷ ys) =
        let keys = bytes_eq-Decides (string_bytes x.0) (string_bytes y.0) in
        let head = Decides-and (string_eq x.0 y.0) (E x.1 y.1) keys (exact x.1 y.1) in
        let all = Decides-and (string_eq x.0 y.0 && E x.1 y.1) (pointwise (λ p q. string_eq p.0 q.0 && E p.1 q.1) xs ys)
        head (same_pairs xs ys) in (
          λ e. let h = all.0 e in λ i. (h.0.0 i, h.0.1 i) ∷ h.1 i,
          λ e.
              let h : ◌≡◌ {A = List ℕ × List ℕ} (string_bytes x.0, f x.1) (string_bytes y.0, f y.1) = cc in
              all.1 ((ap (λ p. p.0) h, ap (λ p. p.1) h), cc),
        )
