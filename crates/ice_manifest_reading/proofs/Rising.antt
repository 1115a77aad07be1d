-- The rows that a list gives rise strictly by their paths.
use Rattle.std.proofs.Common.{◌≡◌, ℕ, ◌≤◌, Bool, true, false, cond, nat_le, List, [], ◌∷◌, length, Option, Some, None}
use Rattle.std.proofs.Common.{Result, Ok, Err, Vec, Global, refl, sym, ap, subst, ◌∙◌, leb-true}
use Rattle.std.specs.Prelude.{IfOk}
use Rattle.std.specs.declared.cmp.Ordering.{Ordering}
use Rattle.std.specs.declared.cmp.Ordering.TheVariants.{Less, Equal, Greater}
use Rattle.std.specs.Cmp.{IsStrictWeakOrder}
use Rattle.std.specs.Cmp.Lexicographic.{slice_cmp}
use Rattle.std.specs.Ordering.{nat_cmp, is_lt, is_eq, ordering_reverse}
use Rattle.std.specs.List.{AllByRecursion, dedup, dedup_from}
use Rattle.std.specs.List.Sorted.{IsStrictlySortedBy}
use Rattle.std.specs.Str.{bytes_eq}
use Rattle.std.proofs.lemmas.Cmp.{nat_list_cmp_total}
use Rattle.std.proofs.lemmas.List.Sorted.{ranks_by}
use Rattle.std.proofs.lemmas.Map.Text.{is_eq-slice_cmp}
use Rattle.contract_words.specs.Outcome.{Gives}
use Rattle.contract_words.specs.Sorting.{sorted}
use Rattle.contract_words.proofs.Sorted.{Rises, sorted_rises}
use Rattle.ice_manifest_fields.specs.declared.fault.ListFault.{ListFault}
use Rattle.ice_manifest_fields.specs.declared.fault.ListFault.TheVariants.{TooManyRows, Memory}
use Rattle.ice_manifest_reading.specs.declared.row.Row.{Row}
use Rattle.ice_manifest_reading.specs.Lists.{path_order, path_before, same_row, twice_after, path_twice, unless_twice}
use Rattle.ice_manifest_reading.specs.Lists.{checked, in_order}

pub order : IsStrictWeakOrder path_before
order = ranks_by nat_list_cmp_total (λ (r : Row). r.path)

-- of two texts that are not equal one is less
pub less_from : (a b : List ℕ) → is_lt (slice_cmp nat_cmp b a) ≡ false → bytes_eq b a ≡ false
    → slice_cmp nat_cmp a b ≡ Less
less_from a b h k =
    let P : (o : Ordering) → slice_cmp nat_cmp b a ≡ o → slice_cmp nat_cmp a b ≡ Less =
    λ o. elim o as (λ v. slice_cmp nat_cmp b a ≡ v → slice_cmp nat_cmp a b ≡ Less) [
      | Less ↦ λ e. let f : true ≡ false = sym (ap is_lt e) ∙ h in absurd (cc)
      | Equal ↦ λ e. let f : true ≡ false = sym (ap is_eq e) ∙ is_eq-slice_cmp b a ∙ k in absurd (cc)
      | Greater ↦ λ e. nat_list_cmp_total.antisymm a b ∙ ap ordering_reverse e
    ] in
    P (slice_cmp nat_cmp b a) refl

not_here : (b : Bool) (path : List ℕ) (rest : Option (List ℕ)) → cond b (Some path) rest ≡ None
    → (b ≡ false) × (rest ≡ None)
not_here true path rest h = absurd (cc)
not_here false path rest h = (refl, h)

all_after : (r s : Row) (rows : List Row) → path_order r s ≡ Less → AllByRecursion (λ t. path_order s t ≡ Less) rows
    → AllByRecursion (λ t. path_order r t ≡ Less) rows
all_after r s [] h all = tt
all_after r s (t ∷ rows) h all = (nat_list_cmp_total.trans r.path s.path t.path h all.0, all_after r s rows h all.1)

pub strict_after : (r : Row) (rows : List Row) → AllByRecursion (λ s. path_before s r ≡ false) rows
    → Rises path_before order rows → twice_after r rows ≡ None
    → AllByRecursion (λ s. path_order r s ≡ Less) rows × IsStrictlySortedBy path_order rows
unfolding twice_after IsStrictlySortedBy
strict_after r [] all rises none = (tt, tt)
strict_after r (s ∷ rows) all rises none =
    let other = not_here (bytes_eq s.path r.path) s.path (twice_after s rows) none in
    let less : path_order r s ≡ Less = less_from r.path s.path all.0 other.0 in
    let rest = strict_after s rows rises.0 rises.1 other.1 in
    ((less, all_after r s rows less rest.0), (rest.0, rest.1))

pub strict_of : (rows : List Row) → Rises path_before order rows → path_twice rows ≡ None
    → IsStrictlySortedBy path_order rows
unfolding IsStrictlySortedBy
strict_of [] rises none = tt
strict_of (r ∷ rows) rises none = strict_after r rows rises.0 rises.1 none

-- ---- equal neighbours

keep_all : (P : Row → Type 0) (k : Row) (rows : List Row) → P k → AllByRecursion P rows
    → AllByRecursion P (dedup_from same_row k rows)
keep_all P k [] p all = (p, tt)
keep_all P k (r ∷ rows) p all = elim (same_row r k) as (λ b. AllByRecursion P (cond b (dedup_from same_row k rows)
    (k ∷ dedup_from same_row r rows))) [ true ↦ keep_all P k rows p all.1 | false ↦ (p, keep_all P r rows all.0 all.1) ]

keep_rising : (k : Row) (rows : List Row) → AllByRecursion (λ r. path_before r k ≡ false) rows
    → Rises path_before order rows → Rises path_before order (dedup_from same_row k rows)
keep_rising k [] all rises = (tt, tt)
keep_rising k (r ∷ rows) all rises = elim (same_row r k) as (λ b. Rises path_before order
    (cond b (dedup_from same_row k rows) (k ∷ dedup_from same_row r rows))) [
      | true ↦ keep_rising k rows all.1 rises.1
      | false ↦ (keep_all (λ s. path_before s k ≡ false) r rows all.0 all.1, keep_rising r rows rises.0 rises.1)
    ]

dedup_rises : (rows : List Row) → Rises path_before order rows → Rises path_before order (dedup same_row rows)
dedup_rises [] rises = tt
dedup_rises (r ∷ rows) rises = keep_rising r rows rises.0 rises.1

pub in_order_rises : (rows : List Row) → Rises path_before order (in_order rows)
in_order_rises rows = dedup_rises (sorted path_before rows) (sorted_rises path_before order rows)

-- ---- what is given

few_is : (b : Bool) (rows found : List Row) → cond b (Ok rows) (Err TooManyRows) ≡ Ok found
    → (b ≡ true) × (rows ≡ found)
few_is true rows found h = (refl, cc)
few_is false rows found h = absurd (cc)

given_is : (path : Option (List ℕ)) (rows found : List Row) → unless_twice path rows ≡ Ok found
    → (path ≡ None) × (nat_le (length rows) 65536 ≡ true) × (rows ≡ found)
given_is (Some path) rows found h = absurd (cc)
given_is None rows found h = let f = few_is (nat_le (length rows) 65536) rows found h in (refl, f.0, f.1)

pub given : (rows found : List Row) → checked rows ≡ Ok found
    → (path_twice rows ≡ None) × (nat_le (length rows) 65536 ≡ true) × (rows ≡ found)
given rows found h = given_is (path_twice rows) rows found h

pub strictly : (rows found : List Row) → checked (in_order rows) ≡ Ok found → IsStrictlySortedBy path_order found
strictly rows found h =
    let g = given (in_order rows) found h in
    let P : List Row → Type 0 = λ xs. IsStrictlySortedBy path_order xs in
    subst P g.2 (strict_of (in_order rows) (in_order_rises rows) g.0)

-- the same of what a function returned
pub strictly_given : (rows : List Row) (r : Result (Vec Row Global) ListFault)
    → Gives Memory (λ v. v.items) r (checked (in_order rows)) → IfOk r (λ v. IsStrictlySortedBy path_order v.items)
strictly_given rows (Ok v) h = strictly rows v.items h
strictly_given rows (Err e) h = tt

pub few_given : (rows : List Row) (r : Result (Vec Row Global) ListFault) → Gives Memory (λ v. v.items) r (checked rows)
    → IfOk r (λ v. length v.items ≤ 65536)
few_given rows (Ok v) h =
    let g = given rows v.items h in
    let P : List Row → Type 0 = λ xs. length xs ≤ 65536 in
    subst P g.2 (leb-true (length rows) 65536 g.1)
few_given rows (Err e) h = tt
