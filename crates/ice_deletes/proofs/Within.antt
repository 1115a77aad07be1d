-- What stands at a place from a sequence number on.
use Rattle.std.proofs.Common.{◌≡◌, ℕ, Bool, true, false, not, ◌&&◌, refl, ap, ◌∙◌, arith, nat_le, nat_lt, ◌==◌, cond}
use Rattle.std.specs.Cmp.{IsTotalOrder, IsStrictWeakOrder}
use Rattle.std.specs.declared.cmp.Ordering.{Ordering}
use Rattle.std.specs.declared.cmp.Ordering.TheVariants.{Less, Equal, Greater}
use Rattle.std.specs.Ordering.{nat_cmp, ordering_then, ordering_reverse, is_lt, is_le, is_gt, is_eq}
use Rattle.std.proofs.lemmas.Cmp.{upto}
use Rattle.std.proofs.lemmas.List.Sorted.{ranks_by}
use Rattle.std.proofs.lemmas.Bool.Decides.{nat_tests}
use Rattle.ice_value.specs.Applying.{DeleteKey}
use Rattle.ice_deletes.specs.declared.group.Group.{Group}
use Rattle.ice_deletes.specs.Groups.{SortKey, sort_key, place_cmp, key_cmp, is_up_to, is_older, is_within}
use Rattle.ice_deletes.proofs.Orders.{places_total, keys_total}

first_not_less : (o q : Ordering) → is_lt (ordering_then o q) ≡ false → is_lt o ≡ false
first_not_less Less q h = h
first_not_less Equal q h = refl
first_not_less Greater q h = refl

is_gt-reverse : (o : Ordering) → is_gt (ordering_reverse o) ≡ is_lt o
is_gt-reverse Less = refl
is_gt-reverse Equal = refl
is_gt-reverse Greater = refl

le_not_gt : (o : Ordering) → is_le o ≡ true → is_gt o ≡ false
le_not_gt Less h = refl
le_not_gt Equal h = refl
le_not_gt Greater h = absurd cc

not_gt_le : (o : Ordering) → is_gt o ≡ false → is_le o ≡ true
not_gt_le Less h = refl
not_gt_le Equal h = refl
not_gt_le Greater h = absurd cc

-- what stands before a file of this place or an earlier one
pub up_to_before : (g : Group) (k x y : SortKey) → is_lt (key_cmp g y x) ≡ false → is_le (place_cmp g y k) ≡ true
    → is_le (place_cmp g x k) ≡ true
up_to_before g k x y before h =
    let total : IsTotalOrder (place_cmp g) = places_total g in
    let first : is_gt (place_cmp g x y) ≡ false =
    ap is_gt (total.antisymm x y) ∙ is_gt-reverse (place_cmp g y x) ∙ first_not_less (place_cmp g y x)
    (nat_cmp y.sequence_number x.sequence_number) before in
    not_gt_le (place_cmp g x k) (upto total x y k first (le_not_gt (place_cmp g y k) h))

-- what stands before an older file is older
pub older_before : (g : Group) (k x y : SortKey) → is_lt (key_cmp g y x) ≡ false → is_lt (key_cmp g y k) ≡ true
    → is_lt (key_cmp g x k) ≡ true
older_before g k x y before h =
    let strict : IsStrictWeakOrder (λ (a : SortKey) (b : SortKey). is_lt (key_cmp g a b)) = ranks_by (keys_total g)
    (λ (a : SortKey). a) in
    let P : (b : Bool) → is_lt (key_cmp g x k) ≡ b → is_lt (key_cmp g x k) ≡ true =
    λ b. elim b as (λ v. is_lt (key_cmp g x k) ≡ v → is_lt (key_cmp g x k) ≡ true) [
      | true ↦ λ e. e
      | false ↦ λ e. let other : is_lt (key_cmp g y k) ≡ false = strict.chain y x k before e in cc
    ] in
    P (is_lt (key_cmp g x k)) refl

not_less : (n from : ℕ) → not (is_lt (nat_cmp n from)) ≡ nat_le from n
not_less n from = go (nat_lt n from) (n == from) refl where
  go : (b c : Bool) → nat_lt n from ≡ b → not (is_lt (cond b Less (cond c Equal Greater))) ≡ nat_le from n
  go true c h = grind (arith, nat_tests)
  go false true h = grind (arith, nat_tests)
  go false false h = grind (arith, nat_tests)

-- the two tests of the search together
pub within_tests : (g : Group) (k : SortKey) (d : DeleteKey)
    → (is_up_to g k d && not (is_older g k d)) ≡ is_within g k d
within_tests g k d = go (place_cmp g (sort_key d) k) where
  go : (o : Ordering) → (is_le o && not (is_lt (ordering_then o (nat_cmp d.sequence_number k.sequence_number))))
      ≡ (is_eq o && nat_le k.sequence_number d.sequence_number)
  go Less = refl
  go Equal = not_less d.sequence_number k.sequence_number
  go Greater = refl
