-- Paths that stand in gaps of entries in order are none of theirs.
use Rattle.std.proofs.Common.{◌≡◌, ◌<◌, ◌≤◌, ℕ, zero, suc, List, [], ◌∷◌, refl, sym, ap, Bool, true, false, length}
use Rattle.std.proofs.Common.{arith, cond, filter, get_or, subst, is_lt, ◌⊎◌, inl, inr, ◌+◌, ◌-◌}
use Rattle.std.specs.List.{AllByRecursion}
use Rattle.std.specs.Cmp.{IsStrictWeakOrder}
use Rattle.std.specs.Cmp.Lexicographic.{slice_cmp}
use Rattle.std.specs.Ordering.{nat_cmp}
use Rattle.std.specs.Str.{bytes_eq}
use Rattle.std.proofs.lemmas.Cmp.{nat_list_cmp_total}
use Rattle.std.proofs.lemmas.List.Sorted.{ranks_by}
use Rattle.std.proofs.lemmas.Slice.Eq.{bytes_eq-Decides}
use Rattle.contract_words.proofs.Sorted.{Rises, irreflexive, sorted_rises}
use Rattle.ice_manifest_reading.specs.declared.entry.Entry.{Entry}
use Rattle.ice_state_entries.specs.Kept.{no_entry}
use Rattle.ice_state.specs.Outcomes.{by_path, path_before}
use Rattle.ice_state.specs.Shares.{count_at}
use Rattle.ice_state.specs.Apart.{IsBehind, IsGap, IsInFront, IsRun, path_at, ShareNoPath}
use Rattle.ice_state.proofs.Sharing.{order}
use Rattle.ice_state.proofs.Rising.{cases, other_path}

abbrev before : List ℕ → List ℕ → Bool
before p q = is_lt (slice_cmp nat_cmp p q)

of_paths : IsStrictWeakOrder before
of_paths = ranks_by nat_list_cmp_total (λ (p : List ℕ). p)

-- what holds of all holds of one
all_at : (P : Entry → Type 0) (xs : List Entry) (k : ℕ) → AllByRecursion P xs → k < length xs
    → P (get_or xs k no_entry)
all_at P [] k all l = absurd (omega arith)
all_at P (x ∷ xs) zero all l = all.0
all_at P (x ∷ xs) (suc k) all l = all_at P xs k all.1 (omega arith)

-- the path of none that stands behind an entry stands in front of this
none_behind : (p : List ℕ) (x : Entry) (zs : List Entry) → before p x.file.path ≡ true
    → AllByRecursion (λ w. path_before w x ≡ false) zs → count_at zs p ≡ 0
none_behind p x [] h all = refl
none_behind p x (z ∷ zs) h all =
    let P : (b : Bool) → bytes_eq z.file.path p ≡ b → bytes_eq z.file.path p ≡ false =
    λ b. elim b as (λ v. bytes_eq z.file.path p ≡ v → bytes_eq z.file.path p ≡ false) [
      | true ↦ λ t.
          let e : z.file.path ≡ p = (bytes_eq-Decides z.file.path p).0 t in
          let k : before p x.file.path ≡ false =
          subst (λ (q : List ℕ). before q x.file.path ≡ false) e all.0 in
          cc
      | false ↦ λ f. f
    ] in
    rw (P (bytes_eq z.file.path p) refl) (none_behind p x zs h all.1)

-- what an entry stands before, the one before it does too
before_too : (x y : Entry) (p : List ℕ) → path_before y x ≡ false → before y.file.path p ≡ true
    → before x.file.path p ≡ true
before_too x y p h k =
    let P : (b : Bool) → before x.file.path p ≡ b → before x.file.path p ≡ true =
    λ b. elim b as (λ v. before x.file.path p ≡ v → before x.file.path p ≡ true) [
      | true ↦ λ t. t
      | false ↦ λ f.
          let no : before y.file.path p ≡ false = of_paths.chain y.file.path x.file.path p h f in
          cc
    ] in
    P (before x.file.path p) refl

pub none_at : (xs : List Entry) (i : ℕ) (p : List ℕ) → Rises path_before order xs → i ≤ length xs
    → IsBehind xs p i → IsInFront xs p i → count_at xs p ≡ 0
none_at [] i p r l low high = refl
none_at (x ∷ xs) zero p r l low high =
    none_behind p x (x ∷ xs) (high (omega arith)) (irreflexive path_before order x, r.0)
none_at (x ∷ xs) (suc i) p r l low high =
    let here : before x.file.path p ≡ true = first i (omega arith) (low i refl) in
    rw (other_path x.file.path p here)
    (none_at xs i p r.1 (omega arith) (λ k e. low (suc k) (ap suc e)) (λ m. high (omega arith)))
  where
    first : (i : ℕ) → i ≤ length xs → before (path_at (x ∷ xs) i) p ≡ true → before x.file.path p ≡ true
    first zero l h = h
    first (suc j) l h = before_too x (get_or xs j no_entry) p
        (all_at (λ w. path_before w x ≡ false) xs j r.0 (omega arith)) h

pub in_gap : (xs : List Entry) (i : ℕ) (p : List ℕ) → by_path xs ≡ xs → IsGap xs p i → count_at xs p ≡ 0
in_gap xs i p sorted gap =
    none_at xs i p (subst (λ (ys : List Entry). Rises path_before order ys) sorted (sorted_rises path_before order xs))
    gap.within gap.behind gap.in_front

-- of entries in order an earlier one stands in no later one's way
not_before : (ys : List Entry) (j k : ℕ) → Rises path_before order ys → j ≤ k → k < length ys
    → path_before (get_or ys k no_entry) (get_or ys j no_entry) ≡ false
not_before [] j k r le l = absurd (omega arith)
not_before (y ∷ ys) zero zero r le l = irreflexive path_before order y
not_before (y ∷ ys) zero (suc k) r le l = all_at (λ w. path_before w y ≡ false) ys k r.0 (omega arith)
not_before (y ∷ ys) (suc j) zero r le l = absurd (omega arith)
not_before (y ∷ ys) (suc j) (suc k) r le l = not_before ys j k r.1 (omega arith) (omega arith)

-- what stands before a path stands before a later one
before_later : (p : List ℕ) (y z : Entry) → before p y.file.path ≡ true → path_before z y ≡ false
    → before p z.file.path ≡ true
before_later p y z h k =
    let P : (b : Bool) → before p z.file.path ≡ b → before p z.file.path ≡ true =
    λ b. elim b as (λ v. before p z.file.path ≡ v → before p z.file.path ≡ true) [
      | true ↦ λ t. t
      | false ↦ λ f.
          let no : before p y.file.path ≡ false = of_paths.chain p z.file.path y.file.path f k in
          cc
    ] in
    P (before p z.file.path) refl

-- all of a run stand in the gap in which its first one stands
pub run_in_gap : (xs ys : List Entry) (first gap end : ℕ) → by_path xs ≡ xs → by_path ys ≡ ys
    → IsGap xs (path_at ys first) gap → IsRun xs ys first gap end
    → (k : ℕ) → first ≤ k → k < end → count_at xs (path_at ys k) ≡ 0
run_in_gap xs ys first gap end sorted sorted_ys is run k low high =
    let rises = subst (λ (zs : List Entry). Rises path_before order zs) sorted_ys (sorted_rises path_before order ys) in
    in_gap xs gap (path_at ys k) sorted (record {
      within = is.within;
      behind = λ m e. before_later (path_at xs m) (get_or ys first no_entry) (get_or ys k no_entry) (is.behind m e)
          (not_before ys first k rises low (omega (arith, high, run.within)));
      in_front = λ l. before_too (get_or ys k no_entry) (get_or ys (end - 1) no_entry) (path_at xs gap)
          (not_before ys k (end - 1) rises (omega (arith, high)) (omega (arith, high, run.within))) (run.in_front l);
    })

pub run_of_one : (xs ys : List Entry) (first gap : ℕ) → first < length ys → IsGap xs (path_at ys first) gap
    → IsRun xs ys first gap (first + 1)
run_of_one xs ys first gap l is =
    let one : first + 1 - 1 ≡ first = omega arith in
    record {
      after = omega arith;
      within = omega (arith, l);
      in_front = subst (λ (k : ℕ). IsInFront xs (path_at ys k) gap) (sym one) is.in_front;
    }

-- none of a run's paths is one of the entries', beside those in front of it
pub none_more : (xs ys : List Entry) (first gap end : ℕ) → by_path xs ≡ xs → by_path ys ≡ ys
    → IsGap xs (path_at ys first) gap → IsRun xs ys first gap end
    → ((k : ℕ) → k < first → count_at xs (path_at ys k) ≡ 0)
    → (k : ℕ) → k < end → count_at xs (path_at ys k) ≡ 0
none_more xs ys first gap end sorted sorted_ys is run before k l =
    elim (cases k first) [
      | inl less ↦ before k less
      | inr far ↦ run_in_gap xs ys first gap end sorted sorted_ys is run k far l
    ]

-- where none of the paths of some is that of an entry, they share none
pub none_shared_by : (xs ys : List Entry) → ((k : ℕ) → k < length ys → count_at xs (path_at ys k) ≡ 0)
    → ShareNoPath xs ys
none_shared_by xs [] all = λ p. inr refl
none_shared_by xs (y ∷ ys) all = λ p.
    let rest = none_shared_by xs ys (λ k l. all (suc k) (omega arith)) p in
    let P : (b : Bool) → bytes_eq y.file.path p ≡ b → (count_at xs p ≡ 0) ⊎ (length
    (cond b (y ∷ filter (λ (w : Entry). bytes_eq w.file.path p) ys) (filter (λ (w : Entry). bytes_eq w.file.path p) ys))
    ≡ 0) =
    λ b. elim b as (λ v. bytes_eq y.file.path p ≡ v → (count_at xs p ≡ 0) ⊎ (length
    (cond v (y ∷ filter (λ (w : Entry). bytes_eq w.file.path p) ys) (filter (λ (w : Entry). bytes_eq w.file.path p) ys))
    ≡ 0)) [
      | true ↦ λ t.
          let e : y.file.path ≡ p = (bytes_eq-Decides y.file.path p).0 t in
          inl (subst (λ (q : List ℕ). count_at xs q ≡ 0) e (all 0 (omega arith)))
      | false ↦ λ f. rest
    ] in
    P (bytes_eq y.file.path p) refl

pub share_back : (xs ys : List Entry) → ShareNoPath xs ys → ShareNoPath ys xs
share_back xs ys h = λ p. elim (h p) [ inl a ↦ inr a | inr b ↦ inl b ]
