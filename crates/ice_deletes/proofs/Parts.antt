-- The delete files among numbered files, by group, and that each number is one file's.
use Rattle.std.proofs.Common.{◌≡◌, ℕ, ◌+◌, ◌<◌, ◌≤◌, ◌==◌, Bool, true, false, not, ◌&&◌, List, [], ◌∷◌, ◌++◌}
use Rattle.std.proofs.Common.{filter, cond, refl, sym, ap, subst, ◌∙◌, arith, eqb-true, append_assoc, is_none, is_some}
use Rattle.std.specs.List.{enumerate_from, count_by}
use Rattle.std.specs.List.Sorted.{IsPermutation}
use Rattle.std.proofs.lemmas.List.Elements.{filter_agree}
use Rattle.std.proofs.lemmas.List.Filters.{sum_by-filter_both}
use Rattle.std.proofs.lemmas.List.Sorted.{IsPermutation-append, IsPermutation-filter_both, IsPermutation-trans}
use Rattle.std.proofs.lemmas.List.Sorted.{sum_by-IsPermutation}
use Rattle.std.proofs.lemmas.List.Sums.{sum_by-cons}
use Rattle.ice_value.specs.declared.file_content.FileContent.{FileContent}
use Rattle.ice_value.specs.declared.file_content.FileContent.TheVariants.{Data, PositionDeletes, EqualityDeletes}
use Rattle.ice_value.specs.Applying.{DeleteKey}
use Rattle.ice_deletes.specs.declared.group.Group.TheVariants.{Positions, Referenced, Equalities, Everywhere}
use Rattle.ice_deletes.specs.Found.{is_content, holds, numbered_deletes}
use Rattle.ice_deletes.specs.Groups.{is_in}
use Rattle.ice_deletes.specs.Indexes.{AreDistinct}
use Rattle.ice_deletes.proofs.Lists.{filter-filter}

-- what passes one test, by a second one
pub parted : {X : Type 0} (p u q r : X → Bool) → ((x : X) → (p x && u x) ≡ q x) → ((x : X) → (p x && not (u x)) ≡ r x)
    → (xs : List X) → IsPermutation (filter p xs) (filter q xs ++ filter r xs)
parted {X} p u q r both one xs =
    let other = λ (x : X). not (u x) in
    let named : filter u (filter p xs) ++ filter other (filter p xs) ≡ filter q xs ++ filter r xs =
    ap (λ ys. ys ++ filter other (filter p xs)) (filter-filter p u xs ∙ filter_agree (λ x. p x && u x) q both xs)
    ∙ ap (λ ys. filter q xs ++ ys) (filter-filter p other xs ∙ filter_agree (λ x. p x && other x) r one xs) in
    rw named at (IsPermutation-filter_both u other (λ x. refl) (filter p xs))

-- a test of files with their numbers
abbrev pub of_file : (DeleteKey → Bool) → ℕ × DeleteKey → Bool
of_file p e = p e.1

positions_of : (d : DeleteKey) → (not (holds Data d) && holds PositionDeletes d) ≡ holds PositionDeletes d
positions_of d = go d.content where
  go : (K : FileContent) → (not (is_content Data K) && is_content PositionDeletes K) ≡ is_content PositionDeletes K
  go Data = refl
  go PositionDeletes = refl
  go EqualityDeletes = refl

equalities_of : (d : DeleteKey) → (not (holds Data d) && not (holds PositionDeletes d)) ≡ holds EqualityDeletes d
equalities_of d = go d.content where
  go : (K : FileContent) → (not (is_content Data K) && not (is_content PositionDeletes K))
      ≡ is_content EqualityDeletes K
  go Data = refl
  go PositionDeletes = refl
  go EqualityDeletes = refl

twice_not : (a b : Bool) → (a && not (not b)) ≡ (a && b)
twice_not a true = refl
twice_not a false = refl

-- the delete files by group
pub by_group : (es : List (ℕ × DeleteKey)) → IsPermutation (filter (of_file (λ d. not (holds Data d))) es)
    (filter (of_file (is_in Positions)) es ++ filter (of_file (is_in Referenced)) es
    ++ filter (of_file (is_in Equalities)) es ++ filter (of_file (is_in Everywhere)) es)
by_group es =
    let positions = filter (of_file (is_in Positions)) es in
    let referenced = filter (of_file (is_in Referenced)) es in
    let equalities = filter (of_file (is_in Equalities)) es in
    let everywhere = filter (of_file (is_in Everywhere)) es in
    let all = filter (of_file (λ d. not (holds Data d))) es in
    let by_content : IsPermutation all (filter (of_file (holds PositionDeletes)) es ++ filter
    (of_file (holds EqualityDeletes)) es) =
    parted (of_file (λ d. not (holds Data d))) (of_file (holds PositionDeletes)) (of_file (holds PositionDeletes))
    (of_file (holds EqualityDeletes)) (λ e. positions_of e.1) (λ e. equalities_of e.1) es in
    let first : IsPermutation (filter (of_file (holds PositionDeletes)) es) (positions ++ referenced) =
    parted (of_file (holds PositionDeletes)) (of_file (λ d. is_none d.referenced)) (of_file (is_in Positions))
    (of_file (is_in Referenced)) (λ e. refl) (λ e. twice_not (holds PositionDeletes e.1) (is_some e.1.referenced)) es in
    let second : IsPermutation (filter (of_file (holds EqualityDeletes)) es) (equalities ++ everywhere) =
    parted (of_file (holds EqualityDeletes)) (of_file (λ d. not d.unpartitioned)) (of_file (is_in Equalities))
    (of_file (is_in Everywhere)) (λ e. refl) (λ e. twice_not (holds EqualityDeletes e.1) e.1.unpartitioned) es in
    let both : IsPermutation all ((positions ++ referenced) ++ (equalities ++ everywhere)) =
    IsPermutation-trans all _ _ by_content
    (IsPermutation-append (filter (of_file (holds PositionDeletes)) es) (positions ++ referenced)
    (filter (of_file (holds EqualityDeletes)) es) (equalities ++ everywhere) first second) in
    let P : List (ℕ × DeleteKey) → Type 0 = λ fs. IsPermutation all fs in
    subst P (sym (append_assoc (positions ++ referenced) equalities everywhere)) both

-- what a permutation, group by group, leaves
pub filed : (es a b c d : List (ℕ × DeleteKey)) → IsPermutation (filter (of_file (is_in Positions)) es) a
    → IsPermutation (filter (of_file (is_in Referenced)) es) b
    → IsPermutation (filter (of_file (is_in Equalities)) es) c
    → IsPermutation (filter (of_file (is_in Everywhere)) es) d
    → IsPermutation (filter (of_file (λ e. not (holds Data e))) es) (a ++ b ++ c ++ d)
filed es a b c d first second third fourth =
    let positions = filter (of_file (is_in Positions)) es in
    let referenced = filter (of_file (is_in Referenced)) es in
    let equalities = filter (of_file (is_in Equalities)) es in
    let everywhere = filter (of_file (is_in Everywhere)) es in
    IsPermutation-trans _ _ (a ++ b ++ c ++ d) (by_group es)
    (IsPermutation-append (positions ++ referenced ++ equalities) (a ++ b ++ c) everywhere d
    (IsPermutation-append (positions ++ referenced) (a ++ b) equalities c
    (IsPermutation-append positions a referenced b first second) third) fourth)

not_first : (m n c : ℕ) → n < m → (b : Bool) → (m == n) ≡ b → c ≡ 0 → cond b 1 0 + c ≡ 0
not_first m n c low true h r = let e : m ≡ n = eqb-true m n h in absurd (omega arith)
not_first m n c low false h r = omega arith

first_once : (m n c : ℕ) → c ≤ 1 → (n < m + 1 → c ≡ 0) → (b : Bool) → (m == n) ≡ b → cond b 1 0 + c ≤ 1
first_once m n c most none true h =
    let e : m ≡ n = eqb-true m n h in
    let r : c ≡ 0 = none (omega arith) in
    omega arith
first_once m n c most none false h = omega arith

-- how often a number is given
abbrev times : ℕ → List (ℕ × DeleteKey) → ℕ
times n es = count_by (λ e. e.0 == n) es

times_before : (files : List DeleteKey) (m n : ℕ) → n < m → times n (enumerate_from m files) ≡ 0
times_before [] m n low = refl
times_before (f ∷ fs) m n low =
    sum_by-cons (λ (e : ℕ × DeleteKey). cond (e.0 == n) 1 0) (m, f) (enumerate_from (m + 1) fs)
    ∙ not_first m n (times n (enumerate_from (m + 1) fs)) low (m == n) refl
    (times_before fs (m + 1) n (omega arith))

times_once : (files : List DeleteKey) (m n : ℕ) → times n (enumerate_from m files) ≤ 1
times_once [] m n = omega arith
times_once (f ∷ fs) m n =
    let e = sum_by-cons (λ (e : ℕ × DeleteKey). cond (e.0 == n) 1 0) (m, f) (enumerate_from (m + 1) fs) in
    let h = first_once m n (times n (enumerate_from (m + 1) fs)) (times_once fs (m + 1) n)
    (λ low. times_before fs (m + 1) n low) (m == n) refl in
    rw e h

-- numbers by place are distinct
pub numbered_once : (files : List DeleteKey) (index : List (ℕ × DeleteKey))
    → IsPermutation (numbered_deletes files) index
    → AreDistinct index
numbered_once files index same n =
    let p = of_file (λ d. not (holds Data d)) in
    let q = λ (e : ℕ × DeleteKey). not (p e) in
    let one : ℕ × DeleteKey → ℕ = λ e. cond (e.0 == n) 1 0 in
    let e : times n index ≡ times n (numbered_deletes files) = sum_by-IsPermutation one (numbered_deletes files) index
    same in
    let f : times n (numbered_deletes files) + times n (filter q (enumerate_from 0 files)) ≡ times n
    (enumerate_from 0 files) = sum_by-filter_both p q (λ x. refl) one (enumerate_from 0 files) in
    let h = times_once files 0 n in
    omega arith
