-- Where the fingerprints of files differ, no two files have one path.
use Rattle.std.proofs.Common.{◌≡◌, ◌∙◌, ◌<◌, ◌≤◌, ◌+◌, ◌-◌, ◌⊎◌, inl, inr, ℕ, zero, suc, Bool, true, false, List, [], ◌∷◌, ◌++◌, ap, arith, get_or, length, map}
use Rattle.std.proofs.Common.{nat_eq, refl, subst, sym}
use Rattle.std.proofs.lemmas.Bool.{eq-eqb, eqb-true, ne_eqb}
use Rattle.std.proofs.lemmas.List.{map-append}
use Rattle.std.proofs.lemmas.List.Sorted.{IsPermutation-append, IsPermutation-refl, IsPermutation-sym, IsPermutation-trans}
use Rattle.std.proofs.lemmas.Map.Keys.{IsDistinct-IsPermutation}
use Rattle.std.proofs.lemmas.Slice.Eq.{bytes_eq-Decides}
use Rattle.std.specs.List.{AllByRecursion, IsDistinct}
use Rattle.std.specs.List.Sorted.{IsPermutation}
use Rattle.icescan_audit_findings.specs.Fingerprints.{AreRising, AreUnlike, fingerprint, fingerprint_of}
use Rattle.icescan_audit_findings.specs.Repeats.{has_path_of, spelling_of}
use Rattle.icescan_audit_findings.specs.declared.repeats.LiveFile.{LiveFile}

-- ---- numbers that rise

-- of the first numbers each is above the one before
abbrev pub RiseUpTo : List ℕ → ℕ → Type 0
RiseUpTo xs n = (k : ℕ) → suc k < n → get_or xs k 0 < get_or xs (suc k) 0

above : (x : ℕ) (ys : List ℕ) → (0 < length ys → x < get_or ys 0 0) → AreRising ys
    → AllByRecursion (λ y. nat_eq x y ≡ false) ys
above x [] first h = tt
above x (y ∷ ys) first h = (
  ne_eqb x y (λ e. let low : x < y = first (omega arith) in omega (arith, e, low)),
  above x ys (λ some.
      let low : x < y = first (omega arith) in
      let next : y < get_or ys 0 0 = h 0 (omega (arith, some)) in
      omega (arith, low, next)) (λ k low. h (suc k) (omega (arith, low))),
)

rising_apart : (xs : List ℕ) → AreRising xs → IsDistinct nat_eq xs
unfolding IsDistinct
rising_apart [] h = tt
rising_apart (x ∷ xs) h = (
  above x xs (λ some. h 0 (omega (arith, some))) (λ k low. h (suc k) (omega (arith, low))),
  rising_apart xs (λ k low. h (suc k) (omega (arith, low))),
)

-- of numbers that rise a later one is above
rising_by : (xs : List ℕ) (i n : ℕ) → AreRising xs → i + n < length xs → get_or xs i 0 ≤ get_or xs (i + n) 0
rising_by xs i zero h low =
    let here : i ≡ i + 0 = omega arith in
    let same : get_or xs i 0 ≤ get_or xs i 0 = omega arith in
    subst (λ k. get_or xs i 0 ≤ get_or xs k 0) here same
rising_by xs i (suc n) h low =
    let next : suc (i + n) ≡ i + suc n = omega arith in
    let before : get_or xs i 0 ≤ get_or xs (i + n) 0 = rising_by xs i n h (omega (arith, low)) in
    let step : get_or xs (i + n) 0 < get_or xs (suc (i + n)) 0 = h (i + n) (omega (arith, low)) in
    let all : get_or xs i 0 ≤ get_or xs (suc (i + n)) 0 = omega (arith, before, step) in
    subst (λ k. get_or xs i 0 ≤ get_or xs k 0) next all

pub later : (xs : List ℕ) (i j : ℕ) → AreRising xs → i ≤ j → j < length xs → get_or xs i 0 ≤ get_or xs j 0
later xs i j h le low =
    let same : i + (j - i) ≡ j = omega (arith, le) in
    subst (λ k. get_or xs i 0 ≤ get_or xs k 0) same (rising_by xs i (j - i) h (omega (arith, same, low)))

-- ---- two lists that rise

-- no number of the first ones is in the other list
abbrev pub AreFar : List ℕ → ℕ → List ℕ → Type 0
AreFar xs n ys = (i j : ℕ) → i < n → j < length ys → get_or xs i 0 ≡ get_or ys j 0 → ⊥

side : (a n : ℕ) → a < n + 1 → (a < n) ⊎ (a ≡ n)
side a n h = grind arith

reach : (j m : ℕ) → (j < m) ⊎ (m ≤ j)
reach j m = grind arith

far_by : (xs ys : List ℕ) (n m : ℕ) → AreRising ys → AreFar ys m xs → n < length xs
    → get_or xs n 0 < get_or ys m 0 → (j : ℕ) → j < length ys → get_or xs n 0 ≡ get_or ys j 0 → ⊥
far_by xs ys n m rising other low less j lowj same = elim (reach j m) as (λ _. ⊥) [
  | inl before ↦ other j n before low (sym same)
  | inr behind ↦ omega (arith, later ys m j rising behind lowj, less, same)
]

-- one more of the first list, which is below all that are left of the other
pub far_more : (xs ys : List ℕ) (n m : ℕ) → AreRising ys → AreFar xs n ys → AreFar ys m xs → n < length xs
    → get_or xs n 0 < get_or ys m 0 → AreFar xs (n + 1) ys
far_more xs ys n m rising h other low less i j lowi lowj same = elim (side i n lowi) as (λ _. ⊥) [
  | inl before ↦ h i j before lowj same
  | inr is ↦ far_by xs ys n m rising other low less j lowj (ap (λ k. get_or xs k 0) (sym is) ∙ same)
]

all_unlike : (x : ℕ) (ys : List ℕ) → ((j : ℕ) → j < length ys → x ≡ get_or ys j 0 → ⊥)
    → AllByRecursion (λ y. nat_eq x y ≡ false) ys
all_unlike x [] h = tt
all_unlike x (y ∷ ys) h = (ne_eqb x y (h 0 (omega arith)), all_unlike x ys (λ j low. h (suc j) (omega (arith, low))))

all_both : (P : ℕ → Type 0) (xs ys : List ℕ) → AllByRecursion P xs → AllByRecursion P ys → AllByRecursion P (xs ++ ys)
all_both P [] ys h k = k
all_both P (x ∷ xs) ys h k = (h.0, all_both P xs ys h.1 k)

both_apart : (xs ys : List ℕ) → IsDistinct nat_eq xs → IsDistinct nat_eq ys → AreUnlike xs ys
    → IsDistinct nat_eq (xs ++ ys)
unfolding IsDistinct
both_apart [] ys h k unlike = k
both_apart (x ∷ xs) ys h k unlike = (
  all_both (λ y. nat_eq x y ≡ false) xs ys h.0
      (all_unlike x ys (λ j low. unlike 0 j (omega arith) low)),
  both_apart xs ys h.1 k (λ i j lowi. unlike (suc i) j (omega (arith, lowi))),
)

-- ---- files by their fingerprints

flips : (x y : ℕ) → nat_eq x y ≡ nat_eq y x
flips x y = by_answer (nat_eq x y) refl where
  by_answer : (b : Bool) → nat_eq x y ≡ b → nat_eq x y ≡ nat_eq y x
  by_answer true e = e ∙ sym (eq-eqb y x (sym (eqb-true x y e)))
  by_answer false e = e ∙ sym (ne_eqb y x (λ s. let yes : true ≡ false = sym (eq-eqb x y (sym s)) ∙ e in absurd cc))

other_path : (x y : LiveFile) → nat_eq (fingerprint_of x) (fingerprint_of y) ≡ false → has_path_of x y ≡ false
other_path x y apart = by_answer (has_path_of x y) refl where
  by_answer : (b : Bool) → has_path_of x y ≡ b → has_path_of x y ≡ false
  by_answer true e =
      let same : spelling_of x ≡ spelling_of y = (bytes_eq-Decides (spelling_of x) (spelling_of y)).0 e in
      let yes : true ≡ false = sym (eq-eqb (fingerprint_of x) (fingerprint_of y) (ap fingerprint same)) ∙ apart in
      absurd cc
  by_answer false e = e

other_paths : (x : LiveFile) (ys : List LiveFile)
    → AllByRecursion (λ n. nat_eq (fingerprint_of x) n ≡ false) (map fingerprint_of ys)
    → AllByRecursion (λ y. has_path_of x y ≡ false) ys
other_paths x [] h = tt
other_paths x (y ∷ ys) h = (other_path x y h.0, other_paths x ys h.1)

apart : (files : List LiveFile) → IsDistinct nat_eq (map fingerprint_of files) → IsDistinct has_path_of files
unfolding IsDistinct
apart [] h = tt
apart (x ∷ xs) h = (other_paths x xs h.0, apart xs h.1)

by_distinct : (files : List LiveFile) (numbers : List ℕ) → IsPermutation (map fingerprint_of files) numbers
    → IsDistinct nat_eq numbers → IsDistinct has_path_of files
by_distinct files numbers same h = apart files (IsDistinct-IsPermutation nat_eq flips numbers
    (map fingerprint_of files) (IsPermutation-sym (map fingerprint_of files) numbers same) h)

pub fingerprints_apart : (files : List LiveFile) (numbers : List ℕ)
    → IsPermutation (map fingerprint_of files) numbers → AreRising numbers → IsDistinct has_path_of files
fingerprints_apart files numbers same h = by_distinct files numbers same (rising_apart numbers h)

-- ---- by parts of the files

pub merged : (files front back : List LiveFile) (first others both sorted : List ℕ) → files ≡ front ++ back
    → IsPermutation (map fingerprint_of front) first → IsPermutation (map fingerprint_of back) others
    → both ≡ first ++ others → IsPermutation both sorted → IsPermutation (map fingerprint_of files) sorted
merged files front back first others both sorted parts h k joined moved =
    let all : map fingerprint_of files ≡ map fingerprint_of front ++ map fingerprint_of back = ap (map fingerprint_of) parts
    ∙ map-append fingerprint_of front back in
    let same : IsPermutation (map fingerprint_of files) both = rw (all, joined)
    (IsPermutation-append (map fingerprint_of front) first (map fingerprint_of back) others h k) in
    IsPermutation-trans (map fingerprint_of files) both sorted same moved

pub parts_apart : (files front back : List LiveFile) (first others : List ℕ) → files ≡ front ++ back
    → IsPermutation (map fingerprint_of front) first → IsPermutation (map fingerprint_of back) others
    → AreRising first → AreRising others → AreUnlike first others → IsDistinct has_path_of files
parts_apart files front back first others parts h k one other unlike =
    by_distinct files (first ++ others) (merged files front back first others (first ++ others) (first ++ others) parts
    h k refl (IsPermutation-refl (first ++ others)))
    (both_apart first others (rising_apart first one) (rising_apart others other) unlike)
