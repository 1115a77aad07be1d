-- What neighbours share in a rising list is what two entries share.
use Rattle.std.proofs.Common.{◌≡◌, ◌<◌, ◌≤◌, ℕ, suc, List, [], ◌∷◌, refl, sym, ap, ◌∙◌, Bool, true, false, length}
use Rattle.std.proofs.Common.{arith, filter, cond, subst, Ordering, is_lt, ◌⊎◌, inl, inr}
use Rattle.std.specs.List.{AllByRecursion}
use Rattle.std.specs.Cmp.{IsStrictWeakOrder}
use Rattle.std.specs.Cmp.Lexicographic.{slice_cmp}
use Rattle.std.specs.Ordering.{nat_cmp, is_eq, ordering_reverse}
use Rattle.std.specs.declared.cmp.Ordering.TheVariants.{Less, Equal, Greater}
use Rattle.std.specs.Str.{bytes_eq}
use Rattle.std.proofs.lemmas.Cmp.{nat_list_cmp_total}
use Rattle.std.proofs.lemmas.List.Sorted.{ranks_by}
use Rattle.std.proofs.lemmas.Map.Text.{is_eq-slice_cmp}
use Rattle.std.proofs.lemmas.Slice.Eq.{bytes_eq-Decides}
use Rattle.ice_manifest_reading.specs.declared.entry.Entry.{Entry}
use Rattle.ice_state.specs.declared.fault.FinishFault.{FinishFault}
use Rattle.ice_state.specs.declared.fault.FinishFault.TheVariants.{PathTwice}
use Rattle.ice_state.specs.Outcomes.{by_path, path_before, twice}
use Rattle.contract_words.specs.Sorting.{put, sorted}
use Rattle.ice_state.specs.Shares.{count_at}
use Rattle.contract_words.proofs.Sorted.{Rises, irreflexive, filter-sorted}

pub order : IsStrictWeakOrder path_before
order = ranks_by nat_list_cmp_total (λ (a : Entry). a.file.path)

by_ranks : (o u : Ordering) → is_lt o ≡ false → is_lt u ≡ false → o ≡ ordering_reverse u → is_eq o ≡ true
by_ranks o Less h k e = cc
by_ranks o Equal h k e = rw e refl
by_ranks o Greater h k e = let f : true ≡ false = sym (ap is_lt e) ∙ h in cc

-- paths of which neither is before the other are one
pub one_path : (a b : List ℕ) → is_lt (slice_cmp nat_cmp a b) ≡ false → is_lt (slice_cmp nat_cmp b a) ≡ false
    → bytes_eq a b ≡ true
one_path a b h k = sym (is_eq-slice_cmp a b) ∙ by_ranks _ _ h k (nat_list_cmp_total.antisymm a b)

-- behind y no entry has the path of x, which stands before y with another path
all_differ : (x y : Entry) (zs : List Entry) → path_before y x ≡ false → bytes_eq x.file.path y.file.path ≡ false
    → AllByRecursion (λ w. path_before w y ≡ false) zs → filter (λ w. bytes_eq w.file.path x.file.path) zs ≡ []
all_differ x y [] h d all = refl
all_differ x y (z ∷ zs) h d all =
    let P : (b : Bool) → bytes_eq z.file.path x.file.path ≡ b → bytes_eq z.file.path x.file.path ≡ false =
    λ b. elim b as (λ v. bytes_eq z.file.path x.file.path ≡ v → bytes_eq z.file.path x.file.path ≡ false) [
      | true ↦ λ t.
          let e : z.file.path ≡ x.file.path = (bytes_eq-Decides z.file.path x.file.path).0 t in
          let k : is_lt (slice_cmp nat_cmp x.file.path y.file.path) ≡ false = (let Q : List ℕ
          → Type 0 = λ p. is_lt (slice_cmp nat_cmp p y.file.path) ≡ false in subst Q e all.0) in
          let same : bytes_eq x.file.path y.file.path ≡ true = one_path x.file.path y.file.path k h in
          cc
      | false ↦ λ f. f
    ] in
    rw (P (bytes_eq z.file.path x.file.path) refl) (all_differ x y zs h d all.1)

-- what no entry is before, no path of an entry is before
not_before : (p q : List ℕ) (zs : List Entry) → AllByRecursion (λ w. is_lt (slice_cmp nat_cmp w.file.path p) ≡ false) zs
    → 0 < count_at zs q → is_lt (slice_cmp nat_cmp q p) ≡ false
not_before p q [] all h = absurd (omega arith)
not_before p q (z ∷ zs) all h =
    let P : (b : Bool) → bytes_eq z.file.path q ≡ b
    → 0 < length (cond b (z ∷ filter (λ (w : Entry). bytes_eq w.file.path q) zs)
    (filter (λ (w : Entry). bytes_eq w.file.path q) zs)) → is_lt (slice_cmp nat_cmp q p) ≡ false =
    λ b. elim b as (λ v. bytes_eq z.file.path q ≡ v
    → 0 < length (cond v (z ∷ filter (λ (w : Entry). bytes_eq w.file.path q) zs)
    (filter (λ (w : Entry). bytes_eq w.file.path q) zs)) → is_lt (slice_cmp nat_cmp q p) ≡ false) [
      | true ↦ λ t l. (let Q : List ℕ → Type 0 = λ r. is_lt (slice_cmp nat_cmp r p) ≡ false in
          subst Q ((bytes_eq-Decides z.file.path q).0 t) all.0)
      | false ↦ λ f l. not_before p q zs all.1 l
    ] in
    P (bytes_eq z.file.path q) refl h

pub count_more : (x : Entry) (ys : List Entry) (q : List ℕ) → count_at ys q ≤ count_at (x ∷ ys) q
count_more x ys q = elim (bytes_eq x.file.path q) as (λ v. count_at ys q ≤ length
    (cond v (x ∷ filter (λ (w : Entry). bytes_eq w.file.path q) ys) (filter (λ (w : Entry). bytes_eq w.file.path q)
    ys))) [ true ↦ omega arith | false ↦ omega arith ]

-- the first entry has the path and no other, or isn't counted
count_first : (x y : Entry) (ys : List Entry) (q : List ℕ) → Rises path_before order (x ∷ y ∷ ys)
    → bytes_eq x.file.path y.file.path ≡ false
    → (count_at (x ∷ y ∷ ys) q ≤ 1) ⊎ (count_at (x ∷ y ∷ ys) q ≡ count_at (y ∷ ys) q)
count_first x y ys q r d =
    let P : (b : Bool) → bytes_eq x.file.path q ≡ b
    → (count_at (x ∷ y ∷ ys) q ≤ 1) ⊎ (count_at (x ∷ y ∷ ys) q ≡ count_at (y ∷ ys) q) =
    λ b. elim b as (λ v. bytes_eq x.file.path q ≡ v → (count_at (x ∷ y ∷ ys) q ≤ 1) ⊎ (count_at (x ∷ y ∷ ys) q
    ≡ count_at (y ∷ ys) q)) [
      | true ↦ λ t.
          let e : x.file.path ≡ q = (bytes_eq-Decides x.file.path q).0 t in
          let none : filter (λ (w : Entry). bytes_eq w.file.path x.file.path) (y ∷ ys) ≡ [] = all_differ x y (y ∷ ys)
          r.0.0 d (irreflexive path_before order y, r.1.0) in
          let none' : filter (λ (w : Entry). bytes_eq w.file.path q) (y ∷ ys) ≡ [] = (let Q : List ℕ
          → Type 0 = λ p. filter (λ (w : Entry). bytes_eq w.file.path p) (y ∷ ys) ≡ [] in subst Q e none) in
          inl (rw (t, none') (omega arith))
      | false ↦ λ f. inr (rw f refl)
    ] in
    P (bytes_eq x.file.path q) refl

pub none_shared : (xs : List Entry) (q : List ℕ) → Rises path_before order xs → twice xs ≡ [] → count_at xs q ≤ 1
none_shared [] q r h = omega arith
none_shared (x ∷ []) q r h = elim (bytes_eq x.file.path q) as (λ v. length (cond v (x ∷ []) []) ≤ 1)
    [ true ↦ omega arith | false ↦ omega arith ]
none_shared (x ∷ y ∷ ys) q r h =
    let P : (b : Bool) → bytes_eq x.file.path y.file.path ≡ b
    → cond b (PathTwice x.file.path ∷ twice (y ∷ ys)) (twice (y ∷ ys)) ≡ [] → count_at (x ∷ y ∷ ys) q ≤ 1 =
    λ b. elim b as (λ v. bytes_eq x.file.path y.file.path ≡ v → cond v (PathTwice x.file.path ∷ twice (y ∷ ys))
    (twice (y ∷ ys)) ≡ [] → count_at (x ∷ y ∷ ys) q ≤ 1) [
      | true ↦ λ t k. cc
      | false ↦ λ f k. elim (count_first x y ys q r f) [
        | inl l ↦ l
        | inr e ↦ omega (
          arith,
          e,
          none_shared (y ∷ ys) q r.1
              k,
        )
      ]
    ] in
    P (bytes_eq x.file.path y.file.path) refl h

pub least_shared : (xs : List Entry) (p : List ℕ) (fs : List FinishFault) → Rises path_before order xs
    → twice xs ≡ PathTwice p ∷ fs → (1 < count_at xs p) × ((q : List ℕ) → 1 < count_at xs q
    → is_lt (slice_cmp nat_cmp q p) ≡ false)
least_shared [] p fs r h = cc
least_shared (x ∷ []) p fs r h = cc
least_shared (x ∷ y ∷ ys) p fs r h =
    let P : (b : Bool) → bytes_eq x.file.path y.file.path ≡ b
    → cond b (PathTwice x.file.path ∷ twice (y ∷ ys)) (twice (y ∷ ys)) ≡ PathTwice p ∷ fs
    → (1 < count_at (x ∷ y ∷ ys) p) × ((q : List ℕ) → 1 < count_at (x ∷ y ∷ ys) q → is_lt (slice_cmp nat_cmp q p)
    ≡ false) =
    λ b. elim b as (λ v. bytes_eq x.file.path y.file.path ≡ v → cond v (PathTwice x.file.path ∷ twice (y ∷ ys))
    (twice (y ∷ ys)) ≡ PathTwice p ∷ fs
    → (1 < count_at (x ∷ y ∷ ys) p) × ((q : List ℕ) → 1 < count_at (x ∷ y ∷ ys) q → is_lt (slice_cmp nat_cmp q p)
    ≡ false)) [
      | true ↦ λ t k.
          let e : x.file.path ≡ p = cc in
          let e' : x.file.path ≡ y.file.path = (bytes_eq-Decides x.file.path y.file.path).0 t in
          let tx : bytes_eq x.file.path p ≡ true = (bytes_eq-Decides x.file.path p).1 e in
          let ty : bytes_eq y.file.path p ≡ true = (bytes_eq-Decides y.file.path p).1 (sym e' ∙ e) in
          let Q : List ℕ → Type 0 = λ w. AllByRecursion (λ (z : Entry). is_lt (slice_cmp nat_cmp z.file.path w) ≡ false)
          (x ∷ y ∷ ys) in
          let all : Q p = subst Q e (irreflexive path_before order x, r.0) in
          (rw (tx, ty) (omega arith), λ q c. not_before p q (x ∷ y ∷ ys) all (omega arith))
      | false ↦ λ f k.
          let rest = least_shared (y ∷ ys) p fs r.1 k in (
            omega (arith, rest.0, count_more x (y ∷ ys) p),
            λ q c. elim (count_first x y ys q r f)
                [ inl l ↦ absurd (omega arith) | inr e ↦ rest.1 q (omega (arith, e, c)) ],
          )
    ] in
    P (bytes_eq x.file.path y.file.path) refl h

length-put : (x : Entry) (ys : List Entry) → length (put path_before x ys) ≡ suc (length ys)
length-put x [] = refl
length-put x (y ∷ ys) = elim (path_before y x) as (λ v. length (cond v (y ∷ put path_before x ys) (x ∷ y ∷ ys)) ≡ suc
    (suc (length ys))) [ true ↦ ap suc (length-put x ys) | false ↦ refl ]

length-sorted : (xs : List Entry) → length (sorted path_before xs) ≡ length xs
length-sorted [] = refl
length-sorted (x ∷ xs) = length-put x (sorted path_before xs) ∙ ap suc (length-sorted xs)

-- sorting counts alike
pub count-by_path : (xs : List Entry) (q : List ℕ) → count_at (by_path xs) q ≡ count_at xs q
count-by_path xs q = ap length (filter-sorted path_before order (λ (x : Entry). bytes_eq x.file.path q) xs) ∙
    length-sorted (filter (λ (x : Entry). bytes_eq x.file.path q) xs)
