-- What merges of indexes end in.
use Rattle.std.proofs.Common.{◌≡◌, ℕ, zero, suc, ◌+◌, ◌≤◌, ◌==◌, Bool, List, [], ◌∷◌, ◌++◌, ◌↔◌}
use Rattle.std.proofs.Common.{cond, refl, sym, ap, subst, ◌∙◌, arith, eq-eqb, slice_index, ◌⊎◌, inl, inr}
use Rattle.std.specs.List.{Contains, remove}
use Rattle.std.specs.List.Sorted.{IsPermutation}
use Rattle.std.proofs.lemmas.List.Elements.{Contains-append_left, Contains-append_right, Contains-append_cases}
use Rattle.std.proofs.lemmas.List.Sorted.{Contains-permutation, IsPermutation-cons, IsPermutation-refl}
use Rattle.std.proofs.lemmas.List.Sorted.{IsPermutation-remove, IsPermutation-sym, IsPermutation-trans}
use Rattle.std.proofs.lemmas.List.Sorted.{sum_by-IsPermutation}
use Rattle.std.proofs.lemmas.List.Sums.{sum_by-cons}
use Rattle.ice_value.specs.Applying.{DeleteKey}
use Rattle.ice_deletes.specs.Found.{numbered_deletes}
use Rattle.ice_deletes.specs.Indexes.{AreDistinct}
use Rattle.ice_deletes.specs.Trees.{Tree, EndsIn, files_of}
use Rattle.ice_deletes.specs.Trees.Tree.{one, both}
use Rattle.ice_deletes.specs.Unions.{renumbered, IsUnion}
use Rattle.ice_deletes.proofs.Parts.{numbered_once}
use Rattle.ice_deletes.proofs.United.{times}

further : {X : Type 0} (x : X) (xs : List X) (y : X) → Contains xs y → Contains (x ∷ xs) y
further x xs y h = (suc h.0, omega arith, h.2)

head_or_tail : {X : Type 0} (x : X) (xs : List X) (y : X) → Contains (x ∷ xs) y → (x ≡ y) ⊎ Contains xs y
head_or_tail x xs y (zero, low, e) = inl e
head_or_tail x xs y (suc k, low, e) = inr (k, omega arith, e)

abbrev one_if : Bool → ℕ
one_if b = cond b 1 0

first_more : (e : ℕ × DeleteKey) (es : List (ℕ × DeleteKey)) (n : ℕ) → times n (e ∷ es) ≡ one_if (e.0 == n) + times n es
first_more e es n = sum_by-cons (λ (e : ℕ × DeleteKey). cond (e.0 == n) 1 0) e es

is_one : (n : ℕ) → one_if (n == n) ≡ 1
is_one n = ap one_if (eq-eqb n n refl)

counted : (es : List (ℕ × DeleteKey)) (e : ℕ × DeleteKey) → Contains es e → 1 ≤ times e.0 es
counted [] e (k, low, at) = absurd (omega arith)
counted (f ∷ es) e c =
    let more = first_more f es e.0 in
    elim (head_or_tail f es e c) [
      | inl at ↦
          let hit : one_if (f.0 == e.0) ≡ 1 = ap (λ (x : ℕ × DeleteKey). one_if (x.0 == e.0)) at ∙ is_one e.0 in
          omega arith
      | inr tail ↦ let rest = counted es e tail in omega arith
    ]

not_twice : (e : ℕ × DeleteKey) (es : List (ℕ × DeleteKey)) → AreDistinct (e ∷ es) → Contains es e → ⊥
not_twice e es distinct c =
    let more = first_more e es e.0 in
    let hit = is_one e.0 in
    let some = counted es e c in
    let most = distinct e.0 in
    omega arith

rest_distinct : (e : ℕ × DeleteKey) (es : List (ℕ × DeleteKey)) → AreDistinct (e ∷ es) → AreDistinct es
rest_distinct e es distinct n =
    let more = first_more e es n in
    let most = distinct n in
    omega arith

pub distinct_permuted : (es fs : List (ℕ × DeleteKey)) → IsPermutation es fs → AreDistinct es → AreDistinct fs
distinct_permuted es fs same distinct n =
    let e = sum_by-IsPermutation (λ (e : ℕ × DeleteKey). cond (e.0 == n) 1 0) es fs same in
    let most = distinct n in
    omega arith

-- both have the same files
abbrev pub Same : List (ℕ × DeleteKey) → List (ℕ × DeleteKey) → Type 0
Same es fs = (n : ℕ) (d : DeleteKey) → Contains es (n, d) ↔ Contains fs (n, d)

none_in : (fs : List (ℕ × DeleteKey)) → Same [] fs → fs ≡ []
none_in [] same = refl
none_in (f ∷ fs) same =
    let c : Contains [] f = (same f.0 f.1).1 (0, omega arith, refl) in
    absurd (nothing f c)
  where
    nothing : (e : ℕ × DeleteKey) → Contains [] e → ⊥
    nothing e (k, low, at) = absurd (omega arith)

rest_same : (e : ℕ × DeleteKey) (es fs rest : List (ℕ × DeleteKey)) → AreDistinct (e ∷ es) → AreDistinct (e ∷ rest)
    → IsPermutation fs (e ∷ rest) → Same (e ∷ es) fs → Same es rest
rest_same e es fs rest first second moved same n d = (there, back) where
  there : Contains es (n, d) → Contains rest (n, d)
  there c =
      let all : Contains (e ∷ rest) (n, d) = Contains-permutation fs (e ∷ rest) (n, d) moved
      ((same n d).0 (further e es (n, d) c)) in
      elim (head_or_tail e rest (n, d) all) [
        | inl at ↦
            let P : ℕ × DeleteKey → Type 0 = λ x. Contains es x in
            absurd (not_twice e es first (subst P (sym at) c))
        | inr tail ↦ tail
      ]

  back : Contains rest (n, d) → Contains es (n, d)
  back c =
      let all : Contains (e ∷ es) (n, d) = (same n d).1 (Contains-permutation (e ∷ rest) fs (n, d)
      (IsPermutation-sym fs (e ∷ rest) moved) (further e rest (n, d) c)) in
      elim (head_or_tail e es (n, d) all) [
        | inl at ↦
            let P : ℕ × DeleteKey → Type 0 = λ x. Contains rest x in
            absurd (not_twice e rest second (subst P (sym at) c))
        | inr tail ↦ tail
      ]

-- the same files, each number once, are one list in some order
pub same_files : (es fs : List (ℕ × DeleteKey)) → AreDistinct es → AreDistinct fs → Same es fs → IsPermutation es fs
same_files [] fs first second same =
    let P : List (ℕ × DeleteKey) → Type 0 = λ l. IsPermutation [] l in
    subst P (sym (none_in fs same)) (IsPermutation-refl [])
same_files (e ∷ es) fs first second same =
    let at : Contains fs e = (same e.0 e.1).0 (0, omega arith, refl) in
    let rest = remove fs at.0 in
    let moved : IsPermutation fs (e ∷ rest) = IsPermutation-remove fs at.0 e at.1 (sym at.2) in
    let once : AreDistinct (e ∷ rest) = distinct_permuted fs (e ∷ rest) moved second in
    IsPermutation-trans (e ∷ es) (e ∷ rest) fs
    (IsPermutation-cons e es rest (same_files es rest (rest_distinct e es first) (rest_distinct e rest once)
    (rest_same e es fs rest first once moved same)))
    (IsPermutation-sym fs (e ∷ rest) moved)

turn : {A B : Type 0} → A ⊎ B → B ⊎ A
turn (inl x) = inr x
turn (inr y) = inl y

pub commutes : (a b ab : List (ℕ × DeleteKey)) → IsUnion a b ab → IsUnion b a ab
commutes a b ab h = record {
  same = λ n d. (λ c. turn ((h.same n d).0 c), λ c. (h.same n d).1 (turn c));
  once = h.once;
}

to_right : {A B C AB BC : Type 0} → (AB → A ⊎ B) → (B ⊎ C → BC) → AB ⊎ C → A ⊎ BC
to_right {A} {B} {C} {AB} {BC} f g (inl ab) = elim (f ab) [ inl a ↦ inl a | inr b ↦ inr (g (inl b)) ]
to_right f g (inr c) = inr (g (inr c))

to_left : {A B C AB BC : Type 0} → (A ⊎ B → AB) → (BC → B ⊎ C) → A ⊎ BC → AB ⊎ C
to_left f g (inl a) = inl (f (inl a))
to_left {A} {B} {C} {AB} {BC} f g (inr bc) = elim (g bc) [ inl b ↦ inl (f (inr b)) | inr c ↦ inr c ]

pub associates : (a b c ab bc all : List (ℕ × DeleteKey)) → IsUnion a b ab → IsUnion b c bc
    → IsUnion ab c all ↔ IsUnion a bc all
associates a b c ab bc all first second = (
  λ h. record {
    same = λ n d. (
      λ x. to_right (first.same n d).0 (second.same n d).1 ((h.same n d).0 x),
      λ x. (h.same n d).1 (to_left (first.same n d).1 (second.same n d).0 x),
    );
    once = h.once;
  },
  λ h. record {
    same = λ n d. (
      λ x. to_left (first.same n d).1 (second.same n d).0 ((h.same n d).0 x),
      λ x. (h.same n d).1 (to_right (first.same n d).0 (second.same n d).1 x),
    );
    once = h.once;
  },
)

pub unique : (a b ab other : List (ℕ × DeleteKey)) → IsUnion a b ab → IsUnion a b other → IsPermutation ab other
unique a b ab other h k = same_files ab other h.once k.once (λ n d. (
  λ c. (k.same n d).1 ((h.same n d).0 c),
  λ c. (h.same n d).1 ((k.same n d).0 c),
))

abbrev here : List ℕ → ℕ × DeleteKey → ℕ × DeleteKey
here to e = (slice_index to e.0, e.1)

-- a file under its other number
into_renumbered : (to : List ℕ) (es : List (ℕ × DeleteKey)) (e : ℕ × DeleteKey) → Contains es e
    → Contains (renumbered to es) (here to e)
into_renumbered to [] e (k, low, at) = absurd (omega arith)
into_renumbered to (f ∷ es) e c = elim (head_or_tail f es e c) [
  | inl at ↦ (0, omega arith, ap (here to) at)
  | inr tail ↦ further (here to f) (renumbered to es) (here to e) (into_renumbered to es e tail)
]

pub of_renumbered : (to : List ℕ) (es : List (ℕ × DeleteKey)) (x : ℕ × DeleteKey) → Contains (renumbered to es) x
    → (e : ℕ × DeleteKey) × Contains es e × (here to e ≡ x)
of_renumbered to [] x (k, low, at) = absurd (omega arith)
of_renumbered to (f ∷ es) x c = elim (head_or_tail (here to f) (renumbered to es) x c) [
  | inl at ↦ (f, (0, omega arith, refl), at)
  | inr tail ↦ let r = of_renumbered to es x tail in (r.0, further f es r.0 r.1, r.2)
]

-- the same files are the same under other numbers
renumbered_from : (to : List ℕ) (es fs : List (ℕ × DeleteKey))
    → ((n : ℕ) (d : DeleteKey) → Contains es (n, d) → Contains fs (n, d)) → (x : ℕ × DeleteKey)
    → Contains (renumbered to es) x → Contains (renumbered to fs) x
renumbered_from to es fs f x c =
    let r = of_renumbered to es x c in
    let P : ℕ × DeleteKey → Type 0 = λ y. Contains (renumbered to fs) y in
    subst P r.2 (into_renumbered to fs r.0 (f r.0.0 r.0.1 r.1))

-- what a tree of merges ends in has the tree's files, each number once
ends_distinct : (tree : Tree) (last : List (ℕ × DeleteKey)) → EndsIn tree last → AreDistinct last
ends_distinct (one files) last h = distinct_permuted files last h.1 h.0
ends_distinct (both tree to other) last (a, b, first, second, h) = h.once

either : {A B C D : Type 0} → (A → C) → (B → D) → A ⊎ B → C ⊎ D
either f g (inl a) = inl (f a)
either f g (inr b) = inr (g b)

joined : (es fs : List (ℕ × DeleteKey)) (x : ℕ × DeleteKey) → Contains es x ⊎ Contains fs x → Contains (es ++ fs) x
joined es fs x (inl c) = Contains-append_left es fs x c
joined es fs x (inr c) = Contains-append_right es fs x c

ends_same : (tree : Tree) (last : List (ℕ × DeleteKey)) → EndsIn tree last → Same last (files_of tree)
ends_same (one files) last h n d = (
  λ c. Contains-permutation last files (n, d) (IsPermutation-sym files last h.1) c,
  λ c. Contains-permutation files last (n, d) h.1 c,
)
ends_same (both tree to other) last (a, b, first, second, h) n d =
    let f = ends_same tree a first in
    let g = ends_same other b second in (
      λ c. joined (files_of tree) (renumbered to (files_of other)) (n, d) (either (f n d).0
          (renumbered_from to b (files_of other) (λ k e. (g k e).0) (n, d)) ((h.same n d).0 c)),
      λ c. (h.same n d).1 (either (f n d).1 (renumbered_from to (files_of other) b (λ k e. (g k e).1) (n, d))
          (Contains-append_cases (files_of tree) (renumbered to (files_of other)) (n, d) c)),
    )

-- that of files is the index that is built of them
pub at_once : (tree : Tree) (files : List DeleteKey) (index : List (ℕ × DeleteKey)) → EndsIn tree index
    → ((n : ℕ) (d : DeleteKey) → Contains (files_of tree) (n, d) ↔ Contains (numbered_deletes files) (n, d))
    → IsPermutation (numbered_deletes files) index
at_once tree files index ends same =
    let all = ends_same tree index ends in
    same_files (numbered_deletes files) index
    (numbered_once files (numbered_deletes files) (IsPermutation-refl (numbered_deletes files)))
    (ends_distinct tree index ends)
    (λ n d. (λ c. (all n d).1 ((same n d).1 c), λ c. (same n d).0 ((all n d).0 c)))
