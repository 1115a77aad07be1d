-- Entries whose paths rise stand in order, and no path twice.
use Rattle.std.proofs.Common.{◌≡◌, ◌<◌, ◌≤◌, ℕ, zero, suc, List, [], ◌∷◌, refl, sym, ap, ◌∙◌, Bool, true, false, length}
use Rattle.std.proofs.Common.{arith, cond, subst, Ordering, is_lt, ◌⊎◌, inl, inr, ◌+◌, ◌-◌, ◌++◌}
use Rattle.std.specs.Cmp.Lexicographic.{slice_cmp}
use Rattle.std.specs.Ordering.{nat_cmp, is_eq}
use Rattle.std.specs.declared.cmp.Ordering.TheVariants.{Less, Equal, Greater}
use Rattle.std.specs.Str.{bytes_eq}
use Rattle.std.proofs.lemmas.Map.Text.{is_eq-slice_cmp}
use Rattle.std.proofs.lemmas.Slice.Eq.{bytes_eq-Decides}
use Rattle.contract_words.proofs.Sorted.{Rises, sorted_rises}
use Rattle.ice_manifest_reading.specs.declared.entry.Entry.{Entry}
use Rattle.ice_state.specs.declared.fault.FinishFault.TheVariants.{PathTwice}
use Rattle.ice_state.specs.Outcomes.{by_path, path_before, twice}
use Rattle.ice_state.specs.Shares.{count_at}
use Rattle.ice_state.specs.Apart.{path_at}
use Rattle.ice_state.specs.Rising.{Rise}
use Rattle.contract_words.specs.Sorting.{put}
use Rattle.ice_state.proofs.Sharing.{count_more, count-by_path, none_shared, one_path, order}

-- up to a place each entry's path stands before the next one's
abbrev pub RiseUpTo : List Entry → ℕ → Type 0
RiseUpTo xs end = (k : ℕ) → suc k < end → is_lt (slice_cmp nat_cmp (path_at xs k) (path_at xs (suc k))) ≡ true

pub cases : (k first : ℕ) → (k < first) ⊎ (first ≤ k)
cases k zero = inr (omega arith)
cases zero (suc first) = inl (omega arith)
cases (suc k) (suc first) = elim (cases k first) [ inl less ↦ inl (omega arith) | inr far ↦ inr (omega arith) ]

pub rise_more : (xs : List Entry) (i : ℕ) → 1 ≤ i → RiseUpTo xs i
    → is_lt (slice_cmp nat_cmp (path_at xs (i - 1)) (path_at xs i)) ≡ true → RiseUpTo xs (i + 1)
rise_more xs i after before here = λ k l.
    elim (cases (suc k) i) [
      | inl less ↦ before k less
      | inr far ↦
          let e : i ≡ suc k = omega (arith, l, far) in
          let f : i - 1 ≡ k = omega (arith, e) in
          subst (λ (n : ℕ). is_lt (slice_cmp nat_cmp (path_at xs k) (path_at xs n)) ≡ true) e
          (subst (λ (n : ℕ). is_lt (slice_cmp nat_cmp (path_at xs n) (path_at xs i)) ≡ true) f here)
    ]

pub sorted_if_rising : (xs : List Entry) → RiseUpTo xs (length xs) → by_path xs ≡ xs
sorted_if_rising [] h = refl
sorted_if_rising (x ∷ []) h = refl
sorted_if_rising (x ∷ y ∷ ys) h =
    let back : path_before y x ≡ false = order.one_way x y (h 0 (omega arith)) in
    let rest = sorted_if_rising (y ∷ ys) (λ k l. h (suc k) (omega arith)) in
    ap (put path_before x) rest
    ∙ ap (λ b. cond b (y ∷ put path_before x ys) (x ∷ y ∷ ys)) back

not_both : (o : Ordering) → is_lt o ≡ true → is_eq o ≡ false
not_both Less h = refl
not_both Equal h = cc
not_both Greater h = cc

pub other_path : (p q : List ℕ) → is_lt (slice_cmp nat_cmp p q) ≡ true → bytes_eq p q ≡ false
other_path p q h = sym (is_eq-slice_cmp p q) ∙ not_both (slice_cmp nat_cmp p q) h

pub once_if_rising : (xs : List Entry) → RiseUpTo xs (length xs) → twice xs ≡ []
once_if_rising [] h = refl
once_if_rising (x ∷ []) h = refl
once_if_rising (x ∷ y ∷ ys) h =
    ap (λ b. cond b (PathTwice x.file.path ∷ twice (y ∷ ys)) (twice (y ∷ ys)))
    (other_path x.file.path y.file.path (h 0 (omega arith)))
    ∙ once_if_rising (y ∷ ys) (λ k l. h (suc k) (omega arith))

-- ---- entries in order of which none stands twice rise

-- of two paths that differ, one that isn't behind the other stands before it
before_other : (p q : List ℕ) → is_lt (slice_cmp nat_cmp q p) ≡ false → bytes_eq p q ≡ false
    → is_lt (slice_cmp nat_cmp p q) ≡ true
before_other p q back other =
    let P : (b : Bool) → is_lt (slice_cmp nat_cmp p q) ≡ b → b ≡ true =
    λ b. elim b as (λ v. is_lt (slice_cmp nat_cmp p q) ≡ v → v ≡ true) [
      | true ↦ λ t. refl
      | false ↦ λ f. (let same = one_path p q f back in cc)
    ] in
    P (is_lt (slice_cmp nat_cmp p q)) refl

none_twice : (x y : Entry) (ys : List Entry) → twice (x ∷ y ∷ ys) ≡ []
    → (bytes_eq x.file.path y.file.path ≡ false) × (twice (y ∷ ys) ≡ [])
none_twice x y ys once =
    let P : (b : Bool) → cond b (PathTwice x.file.path ∷ twice (y ∷ ys)) (twice (y ∷ ys)) ≡ []
    → (b ≡ false) × (twice (y ∷ ys) ≡ []) =
    λ b. elim b as (λ v. cond v (PathTwice x.file.path ∷ twice (y ∷ ys)) (twice (y ∷ ys)) ≡ []
    → (v ≡ false) × (twice (y ∷ ys) ≡ [])) [ true ↦ λ h. cc | false ↦ λ h. (refl, h) ] in
    P (bytes_eq x.file.path y.file.path) once

rise_if_once : (xs : List Entry) → Rises path_before order xs → twice xs ≡ [] → Rise xs
rise_if_once [] rises once k l = absurd (omega (arith, l))
rise_if_once (x ∷ []) rises once k l = absurd (omega (arith, l))
rise_if_once (x ∷ y ∷ ys) rises once zero l =
    before_other x.file.path y.file.path rises.0.0 (none_twice x y ys once).0
rise_if_once (x ∷ y ∷ ys) rises once (suc k) l =
    rise_if_once (y ∷ ys) rises.1 (none_twice x y ys once).1 k (omega (arith, l))

pub by_path_rises : (xs : List Entry) → twice (by_path xs) ≡ [] → Rise (by_path xs)
by_path_rises xs once = rise_if_once (by_path xs) (sorted_rises path_before order xs) once

-- ---- one run behind another

-- the last place moves with one more in front
last_moves : (n : ℕ) → suc (suc n) - 1 ≡ suc (suc n - 1)
last_moves n = omega arith

pub rise_behind : (xs ys : List Entry) → Rise xs → Rise ys
    → (0 < length xs → is_lt (slice_cmp nat_cmp (path_at xs (length xs - 1)) (path_at ys 0)) ≡ true) → Rise (xs ++ ys)
rise_behind [] ys first rest between k l = rest k l
rise_behind (x ∷ []) ys first rest between zero l = between (omega arith)
rise_behind (x ∷ []) ys first rest between (suc k) l = rest k (omega (arith, l))
rise_behind (x ∷ y ∷ xs) ys first rest between zero l = first zero (omega arith)
rise_behind (x ∷ y ∷ xs) ys first rest between (suc k) l =
    let P : ℕ → Type 0 = λ n. is_lt (slice_cmp nat_cmp (path_at (x ∷ y ∷ xs) n) (path_at ys 0)) ≡ true in
    rise_behind (y ∷ xs) ys (λ k l. first (suc k) (omega (arith, l))) rest
    (λ some. subst P (last_moves (length xs)) (between (omega arith))) k (omega (arith, l))

-- both end where the second does
pub end_of_both : (xs ys : List Entry) → 0 < length ys
    → path_at (xs ++ ys) (length (xs ++ ys) - 1) ≡ path_at ys (length ys - 1)
end_of_both [] ys some = refl
end_of_both (x ∷ []) [] some = absurd (omega (arith, some))
end_of_both (x ∷ []) (y ∷ ys) some = ap (path_at (x ∷ y ∷ ys)) (last_moves (length ys))
end_of_both (x ∷ z ∷ xs) ys some =
    ap (path_at (x ∷ z ∷ (xs ++ ys))) (last_moves (length (xs ++ ys))) ∙ end_of_both (z ∷ xs) ys some

-- ---- no path stands twice just where each is counted once at most

pub once_if_few : (xs : List Entry) → ((p : List ℕ) → count_at xs p ≤ 1) → twice xs ≡ []
once_if_few [] few = refl
once_if_few (x ∷ []) few = refl
once_if_few (x ∷ y ∷ ys) few =
    let rest : twice (y ∷ ys) ≡ [] = once_if_few (y ∷ ys) (λ p.
    let more = count_more x (y ∷ ys) p in
    let all = few p in
    omega (arith, more, all)) in
    let P : (b : Bool) → bytes_eq x.file.path y.file.path ≡ b
    → cond b (PathTwice x.file.path ∷ twice (y ∷ ys)) (twice (y ∷ ys)) ≡ [] =
    λ b. elim b as (λ v. bytes_eq x.file.path y.file.path ≡ v
    → cond v (PathTwice x.file.path ∷ twice (y ∷ ys)) (twice (y ∷ ys)) ≡ []) [
      | true ↦ λ t.
          let e : x.file.path ≡ y.file.path = (bytes_eq-Decides x.file.path y.file.path).0 t in
          let here : bytes_eq x.file.path x.file.path ≡ true = (bytes_eq-Decides x.file.path x.file.path).1 refl in
          let there : bytes_eq y.file.path x.file.path ≡ true =
          (bytes_eq-Decides y.file.path x.file.path).1 (sym e) in
          let most = rw (here, there) at (few x.file.path) in
          absurd (omega (arith, most))
      | false ↦ λ f. rest
    ] in
    P (bytes_eq x.file.path y.file.path) refl

pub few_if_once : (xs : List Entry) → twice (by_path xs) ≡ [] → (p : List ℕ) → count_at xs p ≤ 1
few_if_once xs once p =
    subst (λ (n : ℕ). n ≤ 1) (count-by_path xs p)
    (none_shared (by_path xs) p (sorted_rises path_before order xs) once)
