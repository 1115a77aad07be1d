-- Specs in the order of their ids, and the search among them.
use Rattle.std.proofs.Common.{◌≡◌, ℕ, zero, suc, ℤ, List, [], ◌∷◌, refl, sym, ap, ◌∙◌, Bool, true, false, get_or, arith}
use Rattle.std.proofs.Common.{cond, Option, Some, None, is_lt, subst}
use Rattle.std.specs.Prelude.{int_lt}
use Rattle.std.specs.List.{find, slice_get, AllByRecursion}
use Rattle.std.specs.List.Sorted.{IsSortedBy, IsPartitionPoint, IsPartitionedBy}
use Rattle.std.specs.Cmp.{IsStrictWeakOrder}
use Rattle.std.specs.Ordering.{int_eq, int_cmp}
use Rattle.std.specs.declared.cmp.Ordering.TheVariants.{Less, Equal, Greater}
use Rattle.std.proofs.lemmas.Bool.Decides.{Decides-int_eq}
use Rattle.std.proofs.lemmas.Cmp.{int_cmp_total}
use Rattle.std.proofs.lemmas.List.Sorted.{ranks_by, sorted_far}
use Rattle.contract_words.specs.Sorting.{put}
use Rattle.contract_words.proofs.Sorted.{Rises, irreflexive, rises_from, sorted_rises}
use Rattle.ice_meta.specs.declared.spec.Spec.{Spec}
use Rattle.ice_state.specs.Parts.{AreById, if_of}
use Rattle.ice_state.specs.Specs.{spec_of, id_before, by_id}
use Rattle.ice_state.proofs.Elements.{sorted_from_rises}

pub id_order : IsStrictWeakOrder id_before
id_order = ranks_by int_cmp_total (λ (s : Spec). s.id)

numbers : IsStrictWeakOrder (λ (a : ℤ) (b : ℤ). is_lt (int_cmp a b))
numbers = ranks_by int_cmp_total (λ (a : ℤ). a)

abbrev pub has : ℤ → Spec → Bool
has id spec = int_eq spec.id id

abbrev pub below : ℤ → Spec → Bool
below id spec = int_lt spec.id id

-- the two tests of an order are one
pub lt_is : (a b : ℤ) → int_lt a b ≡ is_lt (int_cmp a b)
lt_is a b = elim (int_lt a b) as (λ v. v ≡ is_lt (cond v Less (cond (int_lt b a) Greater Equal))) [
  | true ↦ refl
  | false ↦ elim (int_lt b a) as (λ v. false ≡ is_lt (cond v Greater Equal))
      [ true ↦ refl | false ↦ refl ]
]

-- two specs of one id aren't before each other
apart : (a b : Spec) (id : ℤ) → id_before a b ≡ true → has id a ≡ true → has id b ≡ true → ⊥
apart a b id h p q =
    let same : a.id ≡ b.id = (Decides-int_eq a.id id).0 p ∙ sym ((Decides-int_eq b.id id).0 q) in
    let no : id_before a b ≡ false = (let Q : ℤ → Type 0 = λ z. is_lt (int_cmp a.id z) ≡ false in
    subst Q same (irreflexive id_before id_order a)) in
    let e : true ≡ false = sym h ∙ no in
    cc

swapped : (a b : Bool) (u v w : Option Spec) → (a ≡ true → b ≡ true → ⊥) → cond a u (cond b v w) ≡ cond b v (cond a u w)
swapped true true u v w h = absurd (h refl refl)
swapped true false u v w h = refl
swapped false true u v w h = refl
swapped false false u v w h = refl

find-put : (id : ℤ) (x : Spec) (ys : List Spec) → find (has id) (put id_before x ys) ≡ find (has id) (x ∷ ys)
find-put id x [] = refl
find-put id x (y ∷ ys) =
    let P : (b : Bool) → id_before y x ≡ b → find (has id) (cond b (y ∷ put id_before x ys) (x ∷ y ∷ ys)) ≡ find
    (has id) (x ∷ y ∷ ys) =
    λ b. elim b as (λ v. id_before y x ≡ v → find (has id) (cond v (y ∷ put id_before x ys) (x ∷ y ∷ ys)) ≡ find
    (has id) (x ∷ y ∷ ys)) [
      | true ↦ λ t. ap (λ (o : Option Spec). cond (has id y) (Some y) o) (find-put id x ys) ∙ swapped (has id y)
          (has id x) (Some y) (Some x) (find (has id) ys) (λ p q. apart y x id t p q)
      | false ↦ λ f. refl
    ] in
    P (id_before y x) refl

-- sorting leaves each id's first spec
pub spec_of-by_id : (specs : List Spec) (id : ℤ) → spec_of (by_id specs) id ≡ spec_of specs id
spec_of-by_id [] id = refl
spec_of-by_id (x ∷ xs) id = find-put id x (by_id xs) ∙ ap (λ (o : Option Spec). cond (has id x) (Some x) o)
    (spec_of-by_id xs id)

-- the sorted specs are in order
pub in_order : (specs found : List Spec) → found ≡ by_id specs → AreById found
in_order specs found is = subst AreById (sym is) (sorted_from_rises id_before id_order (by_id specs)
    (sorted_rises id_before id_order specs))

-- ---- the search

level : (a b : ℤ) → int_lt a b ≡ false → int_lt b a ≡ false → int_eq a b ≡ true
level a b h k = grind (arith, lt_is)

above : (id : ℤ) (x : Spec) (ys : List Spec) → below id x ≡ false → has id x ≡ false
    → AllByRecursion (λ y. id_before y x ≡ false) ys → find (has id) ys ≡ None
above id x [] h k all = refl
above id x (y ∷ ys) h k all =
    let P : (b : Bool) → has id y ≡ b → cond b (Some y) (find (has id) ys) ≡ None =
    λ b. elim b as (λ v. has id y ≡ v → cond v (Some y) (find (has id) ys) ≡ None) [
      | true ↦ λ t.
          let same : y.id ≡ id = (Decides-int_eq y.id id).0 t in
          let not_before : int_lt id x.id ≡ false = lt_is id x.id ∙ (let Q : ℤ → Type 0 = λ z. is_lt (int_cmp z x.id)
          ≡ false in subst Q same all.0) in
          let yes : has id x ≡ true = level x.id id h not_before in
          let e : true ≡ false = sym yes ∙ k in
          cc
      | false ↦ λ f. above id x ys h k all.1
    ] in
    P (has id y) refl

found_in : (id : ℤ) (specs : List Spec) (at : ℕ) → Rises id_before id_order specs
    → IsPartitionPoint (λ y. below id y ≡ true) (λ y. below id y ≡ false) specs at
    → spec_of specs id ≡ if_of id (slice_get specs at)
found_in id [] at r p = refl
found_in id (x ∷ xs) zero r p =
    let not_below : below id x ≡ false = p.1 0 x (omega arith) (omega arith) in
    let P : (b : Bool) → has id x ≡ b → cond b (Some x) (find (has id) xs) ≡ cond b (Some x) None =
    λ b. elim b as (λ v. has id x ≡ v → cond v (Some x) (find (has id) xs) ≡ cond v (Some x) None)
    [ true ↦ λ t. refl | false ↦ λ f. above id x xs not_below f r.0 ] in
    P (has id x) refl
found_in id (x ∷ xs) (suc at) r p =
    let lower : below id x ≡ true = p.0 0 x (omega arith) (omega arith) in
    let P : (b : Bool) → has id x ≡ b → cond b (Some x) (find (has id) xs) ≡ if_of id (slice_get xs at) =
    λ b. elim b as (λ v. has id x ≡ v → cond v (Some x) (find (has id) xs) ≡ if_of id (slice_get xs at)) [
      | true ↦ λ t.
          let same : x.id ≡ id = (Decides-int_eq x.id id).0 t in
          let no : is_lt (int_cmp x.id id) ≡ false = (let Q : ℤ → Type 0 = λ z. is_lt (int_cmp x.id z) ≡ false in
          subst Q same (irreflexive id_before id_order x)) in
          let e : true ≡ false = sym lower ∙ lt_is x.id id ∙ no in
          cc
      | false ↦ λ f. found_in id xs at r.1 (
        λ k d l h. p.0 (suc k) d (omega arith) (omega arith),
        λ k d l h. p.1 (suc k)
            d (omega arith) (omega arith),
      )
    ] in
    P (has id x) refl

pub found : (id : ℤ) (specs : List Spec) (at : ℕ) → IsSortedBy id_before specs
    → IsPartitionPoint (λ y. below id y ≡ true) (λ y. below id y ≡ false) specs at
    → spec_of specs id ≡ if_of id (slice_get specs at)
found id specs at up p = found_in id specs at (rises_from id_before id_order specs up) p

-- the lower ids come first
pub parted : (id : ℤ) (specs : List Spec) → IsSortedBy id_before specs → IsPartitionedBy (below id) specs
parted id specs up i j d l m low =
    let far : id_before (get_or specs j d) (get_or specs i d) ≡ false = sorted_far id_before id_order specs up i j d l
    m in
    let P : (b : Bool) → below id (get_or specs i d) ≡ b → below id (get_or specs i d) ≡ true =
    λ b. elim b as (λ v. below id (get_or specs i d) ≡ v → below id (get_or specs i d) ≡ true) [
      | true ↦ λ t. t
      | false ↦ λ f.
          let no : is_lt (int_cmp (get_or specs j d).id id) ≡ false = numbers.chain (get_or specs j d).id
          (get_or specs i d).id id far (sym (lt_is (get_or specs i d).id id) ∙ f) in
          let e : true ≡ false = sym low ∙ lt_is (get_or specs j d).id id ∙ no in
          cc
    ] in
    P (below id (get_or specs i d)) refl
